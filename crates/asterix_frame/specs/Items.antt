-- The octets of an item by its shape, and octets that begin none.
use Rattle.std.specs.Prelude.{◌≡◌, ⊤, ℕ, zero, suc, ◌*◌, ◌<◌, Bool, true, false, List, [], ◌∷◌, length, slice_index, slice_index_or}
use Rattle.asterix_frame.specs.Causes.{item_end, length_zero, unknown_subfield}
use Rattle.asterix_frame.specs.declared.tables.ItemFormat.{ItemFormat}
use Rattle.asterix_frame.specs.declared.tables.ItemFormat.TheVariants as formats
use Rattle.asterix_frame.specs.declared.tables.SubfieldFormat.{SubfieldFormat}
use Rattle.asterix_frame.specs.declared.tables.SubfieldFormat.TheVariants as subfields
use Rattle.asterix_frame.specs.Tables.{subfields_of}
use Rattle.asterix_frame.specs.Presence.{fx, IsExtended, EndsInField, HasSpare}
use Rattle.asterix_frame.specs.Elements.{Element, BeginsElements}

-- ---- items without bits of presence

-- a number n, and then n times so many octets
abbrev pub IsRepetitive : ℕ → List ℕ → Type 0
IsRepetitive size [] = ⊥
IsRepetitive size (n ∷ octets) = length octets ≡ n * size

abbrev pub EndsInRepetitive : ℕ → List ℕ → Type 0
EndsInRepetitive size [] = ⊤
EndsInRepetitive size (n ∷ octets) = length octets < n * size

-- a length, which counts itself
abbrev pub IsExplicit : List ℕ → Type 0
IsExplicit [] = ⊥
IsExplicit (n ∷ octets) = suc (length octets) ≡ n

abbrev pub BeginsNoExplicit : List ℕ → ℕ → Type 0
BeginsNoExplicit [] cause = cause ≡ item_end
BeginsNoExplicit (zero ∷ octets) cause = cause ≡ length_zero
BeginsNoExplicit (suc n ∷ octets) cause = (length octets < n) × (cause ≡ item_end)

-- ---- compound items

abbrev pub IsSubfield : SubfieldFormat → List ℕ → Type 0
IsSubfield subfields.Spare octets = ⊥
IsSubfield (subfields.Fixed size) octets = length octets ≡ size
IsSubfield (subfields.Repetitive size) octets = IsRepetitive size octets

abbrev pub EndsInSubfield : SubfieldFormat → List ℕ → Type 0
EndsInSubfield subfields.Spare octets = ⊥
EndsInSubfield (subfields.Fixed size) octets = length octets < size
EndsInSubfield (subfields.Repetitive size) octets = EndsInRepetitive size octets

abbrev pub is_subfield : SubfieldFormat → Bool
is_subfield subfields.Spare = false
is_subfield _ = true

-- the subfield of a number
abbrev pub subfield_at : List SubfieldFormat → ℕ → SubfieldFormat
subfield_at table n = slice_index_or table n subfields.Spare

-- octets that begin with a primary field and with whole subfields for the first of its numbers
abbrev pub BeginsCompound : List SubfieldFormat → List ℕ → List ℕ → List Element → List ℕ → List ℕ → Type 0
BeginsCompound table = BeginsElements (λ n. is_subfield (subfield_at table n)) (λ n octets. IsSubfield (subfield_at table n) octets)

abbrev pub IsCompound : List SubfieldFormat → List ℕ → Type 0
IsCompound table octets = (field : List ℕ) × (elements : List Element) × BeginsCompound table octets field elements [] []

-- the octets end within the next subfield
pub record EndsInNext (table : List SubfieldFormat) (octets : List ℕ) : Type 0 where
  pub field : List ℕ
  pub elements : List Element
  pub number : ℕ
  pub left : List ℕ
  pub rest : List ℕ
  pub begins : BeginsCompound table octets field elements (number ∷ left) rest
  pub ends : EndsInSubfield (subfield_at table number) rest

-- what is told, how far in the item, and its cause
pub data BeginsNoCompound (table : List SubfieldFormat) (octets : List ℕ) (inside cause : ℕ) : Type 0 where
  ends_in_field : EndsInField (λ n. is_subfield (subfield_at table n)) octets → inside ≡ 0 → cause ≡ item_end → BeginsNoCompound table octets inside cause
  has_spare : HasSpare (λ n. is_subfield (subfield_at table n)) octets inside → cause ≡ unknown_subfield → BeginsNoCompound table octets inside cause
  ends_in_subfield : EndsInNext table octets → inside ≡ 0 → cause ≡ item_end → BeginsNoCompound table octets inside cause

-- ---- all items

abbrev pub IsItem : ItemFormat → List ℕ → Type 0
IsItem formats.Spare octets = ⊥
IsItem (formats.Fixed size) octets = length octets ≡ size
IsItem formats.Extended octets = IsExtended octets
IsItem (formats.Repetitive size) octets = IsRepetitive size octets
IsItem formats.Explicit octets = IsExplicit octets
IsItem (formats.Compound compound) octets = IsCompound (subfields_of compound) octets

-- Octets that begin no item of the shape, however they go on: what is told, how far in the item,
-- and its cause.
abbrev pub BeginsNoItem : ItemFormat → List ℕ → ℕ → ℕ → Type 0
BeginsNoItem formats.Spare octets inside cause = ⊥
BeginsNoItem (formats.Fixed size) octets inside cause = (length octets < size) × (inside ≡ 0) × (cause ≡ item_end)
BeginsNoItem formats.Extended octets inside cause = ((i : ℕ) → i < length octets → fx (slice_index octets i) ≡ 1) × (inside ≡ 0) × (cause ≡ item_end)
BeginsNoItem (formats.Repetitive size) octets inside cause = EndsInRepetitive size octets × (inside ≡ 0) × (cause ≡ item_end)
BeginsNoItem formats.Explicit octets inside cause = BeginsNoExplicit octets cause × (inside ≡ 0)
BeginsNoItem (formats.Compound compound) octets inside cause = BeginsNoCompound (subfields_of compound) octets inside cause

abbrev pub is_item : ItemFormat → Bool
is_item formats.Spare = false
is_item _ = true

-- the item of a number: that of FRN number + 1
abbrev pub item_at : List ItemFormat → ℕ → ItemFormat
item_at table n = slice_index_or table n formats.Spare
