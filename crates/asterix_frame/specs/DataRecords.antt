-- Whole records by their category: their items, the time of day among them, and octets that begin
-- no record.
use Rattle.std.specs.Prelude.{◌≡◌, ℕ, ◌+◌, ◌<◌, ◌≤◌, ◌==◌, if◌then◌else◌, List, [], ◌∷◌, ◌++◌, length, Option, Some, None, IfSome, IsSomeAnd}
use Rattle.std.specs.Option.{option_and_then, unwrap_or}
use Rattle.std.specs.List.{AllByRecursion}
use Rattle.trk_base.specs.Numbers.{day}
use Rattle.asterix_frame.specs.Causes.{fspec_end, spare_frn, time_range}
use Rattle.asterix_frame.specs.declared.tables.Uap.{Uap}
use Rattle.asterix_frame.specs.Tables.{source_frn, table_of, time_frn}
use Rattle.asterix_frame.specs.Values.{three_octets, data_source}
use Rattle.asterix_frame.specs.Presence.{IsField, EndsInField, HasSpare, present}
use Rattle.asterix_frame.specs.Elements.{Element, BeginsElements, numbers, octets_of}
use Rattle.asterix_frame.specs.Items.{IsItem, BeginsNoItem, item_at}
use Rattle.asterix_frame.specs.Records.{knows}

-- ---- items

-- the octets of the item with that FRN, if there is one
abbrev pub item : ℕ → List Element → Option (List ℕ)
item frn [] = None
item frn (p ∷ ps) = if p.number + 1 == frn then Some p.octets else item frn ps

-- its octets; those of an item that isn't there are none
abbrev pub item_octets : ℕ → List Element → List ℕ
item_octets frn items = unwrap_or (item frn items) []

-- the data source identifier of a record
abbrev pub source_of : List Element → Option (ℕ × ℕ)
source_of items = data_source (item_octets source_frn items)

-- the time of day in three octets, in 1/128 s
abbrev pub time_in : List ℕ → Option ℕ
time_in octets = three_octets octets

-- the time of day of a record
abbrev pub time_of : Uap → List Element → Option ℕ
time_of uap items = option_and_then time_in (item (time_frn uap) items)

-- the item of a number, whole; a time of day is below a day
pub record IsDataItem (uap : Uap) (number : ℕ) (octets : List ℕ) : Type 0 where
  pub whole : IsItem (item_at (table_of uap) number) octets
  pub in_day : number + 1 ≡ time_frn uap → IfSome (time_in octets) (λ time. time < day)

-- octets that begin with a whole time of day that isn't below a day
pub record BeginsTimeOutOfRange (uap : Uap) (number : ℕ) (octets : List ℕ) : Type 0 where
  pub time : List ℕ
  pub rest : List ℕ
  pub is_time : number + 1 ≡ time_frn uap
  pub is_item : IsItem (item_at (table_of uap) number) time
  pub begins : octets ≡ time ++ rest
  pub out_of_range : IsSomeAnd (time_in time) (λ t. day ≤ t)

-- Octets that begin no such item: what is told, how far in the item, and its cause.
pub data BeginsNoDataItem (uap : Uap) (number : ℕ) (octets : List ℕ) (inside cause : ℕ) : Type 0 where
  no_item : BeginsNoItem (item_at (table_of uap) number) octets inside cause → BeginsNoDataItem uap number octets inside cause
  time_out_of_range : BeginsTimeOutOfRange uap number octets → inside ≡ 0 → cause ≡ time_range → BeginsNoDataItem uap number octets inside cause

-- ---- records

-- a record without its offset
pub record DataRecord : Type 0 where
  pub fspec : List ℕ
  pub items : List Element

-- its octets
abbrev pub record_octets : DataRecord → List ℕ
record_octets r = r.fspec ++ octets_of r.items

-- its FSPEC names its items, in order
pub record IsDataRecord (uap : Uap) (r : DataRecord) : Type 0 where
  pub is_fspec : IsField (knows (table_of uap)) r.fspec
  pub in_order : present r.fspec ≡ numbers r.items
  pub are_items : AllByRecursion (λ p. IsDataItem uap p.number p.octets) r.items

-- octets that begin with a whole FSPEC and with whole items for the first of its numbers, with a
-- time of day below a day
abbrev pub BeginsDataRecord : Uap → List ℕ → List ℕ → List Element → List ℕ → List ℕ → Type 0
BeginsDataRecord uap = BeginsElements (knows (table_of uap)) (λ n octets. IsDataItem uap n octets)

-- The item that is next begins nowhere.
pub record FaultyDataItem (uap : Uap) (octets : List ℕ) (inside cause : ℕ) : Type 0 where
  pub fspec : List ℕ
  pub items : List Element
  pub number : ℕ
  pub left : List ℕ
  pub rest : List ℕ
  pub within : ℕ
  pub begins : BeginsDataRecord uap octets fspec items (number ∷ left) rest
  pub none : BeginsNoDataItem uap number rest within cause
  pub inside_is : inside ≡ length fspec + length (octets_of items) + within

-- What stands where a record should begin, up to the block's end, and begins none: what is told,
-- how far in, and its cause.
pub data BeginsNoDataRecord (uap : Uap) (octets : List ℕ) (inside cause : ℕ) : Type 0 where
  ends_in_fspec : 0 < length octets → EndsInField (knows (table_of uap)) octets → inside ≡ length octets → cause ≡ fspec_end → BeginsNoDataRecord uap octets inside cause
  has_spare : HasSpare (knows (table_of uap)) octets inside → cause ≡ spare_frn → BeginsNoDataRecord uap octets inside cause
  in_item : FaultyDataItem uap octets inside cause → BeginsNoDataRecord uap octets inside cause
