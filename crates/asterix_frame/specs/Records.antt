-- Records: an FSPEC, and after it the items that it names, by the table of the category.
use Rattle.std.specs.Prelude.{◌≡◌, ℕ, ◌+◌, ◌≤◌, Bool, List, [], ◌∷◌, length, drop, Result, Ok, Err}
use Rattle.asterix_frame.specs.Causes.{fspec_end, spare_frn}
use Rattle.asterix_frame.specs.declared.block.Malformed.{Malformed}
use Rattle.asterix_frame.specs.declared.block.Block.{Block}
use Rattle.asterix_frame.specs.declared.tables.ItemFormat.{ItemFormat}
use Rattle.asterix_frame.specs.Presence.{EndsInField, HasSpare}
use Rattle.asterix_frame.specs.Elements.{Element, BeginsElements, octets_of}
use Rattle.asterix_frame.specs.Items.{IsItem, BeginsNoItem, is_item, item_at}

-- whether the category has an item of the number
abbrev pub knows : List ItemFormat → ℕ → Bool
knows table n = is_item (item_at table n)

-- octets that begin with a whole FSPEC and with whole items for the first of its numbers
abbrev pub BeginsRecord : List ItemFormat → List ℕ → List ℕ → List Element → List ℕ → List ℕ → Type 0
BeginsRecord table = BeginsElements (knows table) (λ n octets. IsItem (item_at table n) octets)

-- the FRN, the first octet and the end of each item, from an offset on
abbrev pub spans : ℕ → List Element → List (ℕ × ℕ × ℕ)
spans at [] = []
spans at (p ∷ ps) = (p.number + 1, at, at + length p.octets) ∷ spans (at + length p.octets) ps

-- it lies in the body
abbrev pub LiesIn : List ℕ → ℕ × ℕ × ℕ → Type 0
LiesIn body span = (span.1 ≤ span.2) × (span.2 ≤ length body)

-- from that offset on the body has a whole record, with items at these offsets, and its end
pub record HasRecord (table : List ItemFormat) (body : List ℕ) (from : ℕ) (found : List (ℕ × ℕ × ℕ)) (next : ℕ) : Type 0 where
  pub fspec : List ℕ
  pub items : List Element
  pub begins : BeginsRecord table (drop from body) fspec items [] (drop next body)
  pub found_are : found ≡ spans (from + length fspec) items
  pub next_is : next ≡ from + length fspec + length (octets_of items)

-- The item that is next begins nowhere at its offset.
pub record FaultyItem (table : List ItemFormat) (body : List ℕ) (from : ℕ) (found : List (ℕ × ℕ × ℕ)) (offset cause : ℕ) : Type 0 where
  pub fspec : List ℕ
  pub items : List Element
  pub number : ℕ
  pub left : List ℕ
  pub at : ℕ
  pub inside : ℕ
  pub begins : BeginsRecord table (drop from body) fspec items (number ∷ left) (drop at body)
  pub none : BeginsNoItem (item_at table number) (drop at body) inside cause
  pub found_are : found ≡ spans (from + length fspec) items
  pub at_is : at ≡ from + length fspec + length (octets_of items)
  pub offset_is : offset ≡ at + inside

-- The body has no whole record from that offset on: the items before the fault, the fault's offset
-- in the body, and its cause.
pub data RecordFault (table : List ItemFormat) (body : List ℕ) (from : ℕ) (found : List (ℕ × ℕ × ℕ)) (offset cause : ℕ) : Type 0 where
  ends_in_fspec : EndsInField (knows table) (drop from body) → found ≡ [] → offset ≡ length body → cause ≡ fspec_end → RecordFault table body from found offset cause
  has_spare : (inside : ℕ) → HasSpare (knows table) (drop from body) inside → found ≡ [] → offset ≡ from + inside → cause ≡ spare_frn → RecordFault table body from found offset cause
  in_item : FaultyItem table body from found offset cause → RecordFault table body from found offset cause

-- what is told of a block that has no whole record from that offset of its body on
abbrev pub IsFaultOfRecord : List ItemFormat → Block → ℕ → Malformed → Type 0
IsFaultOfRecord table block from m = (found : List (ℕ × ℕ × ℕ)) × (body_offset : ℕ) × (m.offset ≡ block.at + body_offset) × RecordFault table block.body.now from found body_offset m.cause

-- what a walk over one record tells of a body that lies at an offset of its datagram
abbrev pub Walks : List ItemFormat → ℕ → List ℕ → ℕ → List (ℕ × ℕ × ℕ) → Result ℕ Malformed → Type 0
Walks table offset body from found (Ok next) = HasRecord table body from found next
Walks table offset body from found (Err m) = (body_offset : ℕ) × (m.offset ≡ offset + body_offset) × RecordFault table body from found body_offset m.cause
