-- The body of a block as a list of records, and where they lie in it.
use Rattle.std.specs.Prelude.{◌≡◌, ℕ, ◌+◌, ◌-◌, ◌≤◌, ◌==◌, if◌then◌else◌, List, [], ◌∷◌, ◌++◌, length, map, take, drop, All, Option, Some, None, IsSomeAnd}
use Rattle.trk_base.specs.Numbers.{day}
use Rattle.std.specs.List.{flat_map, filter_map, AllByRecursion}
use Rattle.asterix_frame.specs.declared.block.Malformed.{Malformed}
use Rattle.asterix_frame.specs.declared.block.Block.{Block}
use Rattle.asterix_frame.specs.declared.tables.Uap.{Uap}
use Rattle.asterix_frame.specs.declared.walk.ItemSpans.{ItemSpans}
use Rattle.asterix_frame.specs.Tables.{time_frn}
use Rattle.asterix_frame.specs.Elements.{Element}
use Rattle.asterix_frame.specs.Records.{spans, LiesIn}
use Rattle.asterix_frame.specs.DataRecords.{DataRecord, IsDataRecord, record_octets, BeginsNoDataRecord, time_in, time_of}

-- ---- the grammar

abbrev pub AreDataRecords : Uap → List DataRecord → Type 0
AreDataRecords uap rs = AllByRecursion (IsDataRecord uap) rs

-- the octets of a body of these records
abbrev pub body_of : List DataRecord → List ℕ
body_of rs = flat_map record_octets rs

-- the body is these records
pub record IsBody (uap : Uap) (body : List ℕ) (rs : List DataRecord) : Type 0 where
  pub are_records : AreDataRecords uap rs
  pub whole : body ≡ body_of rs

-- The body is whole records, and then octets that begin none: the fault's offset in the body, and
-- its cause.
pub record BodyFault (uap : Uap) (body : List ℕ) (offset cause : ℕ) : Type 0 where
  pub prefix : List DataRecord
  pub rest : List ℕ
  pub inside : ℕ
  pub are_records : AreDataRecords uap prefix
  pub whole : body ≡ body_of prefix ++ rest
  pub none : BeginsNoDataRecord uap rest inside cause
  pub offset_is : offset ≡ length (body_of prefix) + inside

-- what is told of a block that has no record from that offset of its body on
pub record IsFaultFrom (uap : Uap) (block : Block) (from : ℕ) (m : Malformed) : Type 0 where
  pub inside : ℕ
  pub none : BeginsNoDataRecord uap (drop from block.body.now) inside m.cause
  pub offset_is : m.offset ≡ block.at + from + inside

-- what is told of a block whose body isn't records
pub record IsFaultOfBody (uap : Uap) (block : Block) (m : Malformed) : Type 0 where
  pub body_offset : ℕ
  pub fault : BodyFault uap block.body.now body_offset m.cause
  pub offset_is : m.offset ≡ block.at + body_offset

-- the times of day of these records, in order
abbrev pub times_of : Uap → List DataRecord → List ℕ
times_of uap rs = filter_map (λ r. time_of uap r.items) rs

-- ---- items by their offsets

-- an FRN from 1 on, and an offset in the body
abbrev pub IsSpan : List ℕ → ℕ × ℕ × ℕ → Type 0
IsSpan body span = (1 ≤ span.0) × LiesIn body span

-- the first octet and the end of the item with that FRN, if there is one
abbrev pub span_of : ℕ → List (ℕ × ℕ × ℕ) → Option (ℕ × ℕ)
span_of frn [] = None
span_of frn (span ∷ more) = if span.0 == frn then Some (span.1, span.2) else span_of frn more

-- what lies there
abbrev pub element_at : List ℕ → ℕ × ℕ × ℕ → Element
element_at body span = record { number = span.0 - 1; octets = take (span.2 - span.1) (drop span.1 body) }

abbrev pub elements_at : List ℕ → List (ℕ × ℕ × ℕ) → List Element
elements_at body found = map (element_at body) found

-- the item of the time of day begins there, and isn't below a day
pub record IsTimeOutOfRange (uap : Uap) (body : List ℕ) (found : List (ℕ × ℕ × ℕ)) (first : ℕ) : Type 0 where
  pub end : ℕ
  pub at : span_of (time_frn uap) found ≡ Some (first, end)
  pub out_of_range : IsSomeAnd (time_in (take (end - first) (drop first body))) (λ time. day ≤ time)

-- the body has this record from that offset on, with items at these offsets, and its end
pub record HasDataRecord (uap : Uap) (body : List ℕ) (from : ℕ) (r : DataRecord) (found : ItemSpans) : Type 0 where
  pub is_record : IsDataRecord uap r
  pub octets : drop from body ≡ record_octets r ++ drop found.next body
  pub items : elements_at body found.frns.items ≡ r.items
  pub spans_are : found.frns.items ≡ spans (from + length r.fspec) r.items
  pub next : found.next ≡ from + length (record_octets r)

-- the body has these records from that offset on, and their items lie there
abbrev pub HaveDataRecords : Uap → List ℕ → ℕ → List DataRecord → List ItemSpans → Type 0
HaveDataRecords uap body from [] [] = Unit {0}
HaveDataRecords uap body from (r ∷ rs) (found ∷ more) = HasDataRecord uap body from r found × HaveDataRecords uap body found.next rs more
HaveDataRecords uap body from _ _ = ⊥

-- the offsets lie in the body
abbrev pub AreSpans : List ℕ → ItemSpans → Type 0
AreSpans body found = All (IsSpan body) found.frns.items

-- the body is records, whose items lie at these offsets
pub record HasRecords (uap : Uap) (body : List ℕ) (found : List ItemSpans) : Type 0 where
  pub records : List DataRecord
  pub is_body : IsBody uap body records
  pub have : HaveDataRecords uap body 0 records found
