-- What a record is encoded as: the field of presence bits that names its elements, as long as the
-- last of them needs, and then their octets in rising FRN. A compound item is encoded alike.
use Rattle.std.specs.Prelude.{◌≡◌, ℕ, zero, suc, ◌+◌, ◌-◌, ◌*◌, ◌/◌, ◌<◌, ◌≤◌, Bool, true, false, ◌==◌, nat_lt, if◌then◌else◌, List, [], ◌∷◌, ◌++◌, length, take, drop, slice_index}
use Rattle.std.specs.List.{AllByRecursion}
use Rattle.asterix_frame.specs.declared.tables.Uap.{Uap}
use Rattle.asterix_frame.specs.declared.tables.SubfieldFormat.{SubfieldFormat}
use Rattle.asterix_frame.specs.Elements.{Element, numbers, octets_of}
use Rattle.asterix_frame.specs.Items.{IsSubfield, subfield_at}
use Rattle.asterix_frame.specs.Packing.{record_limit}
use Rattle.asterix_frame.specs.DataRecords.{DataRecord, IsDataItem}

-- ---- a field of presence bits

-- whether the number is among these
abbrev pub has : List ℕ → ℕ → Bool
has [] n = false
has (m ∷ ms) n = if m == n then true else has ms n

abbrev pub bit : Bool → ℕ
bit true = 1
bit false = 0

-- Octet i has number 7 i in bit 8, and so on down to number 7 i + 6 in bit 2. Bit 1, FX, says that
-- the field goes on.
unfoldable pub field_octet : (ℕ → Bool) → ℕ → Bool → ℕ
field_octet named i goes_on =
    128 * bit (named (7 * i)) + 64 * bit (named (7 * i + 1)) + 32 * bit (named (7 * i + 2)) + 16 * bit (named (7 * i + 3))
    + 8 * bit (named (7 * i + 4)) + 4 * bit (named (7 * i + 5)) + 2 * bit (named (7 * i + 6)) + bit goes_on

-- so many octets from octet i on, of which the last ends the field
abbrev pub field_from : (ℕ → Bool) → ℕ → ℕ → List ℕ
field_from named i zero = []
field_from named i (suc zero) = field_octet named i false ∷ []
field_from named i (suc (suc count)) = field_octet named i true ∷ field_from named (suc i) (suc count)

-- one more than the last number, or n where there is none
abbrev pub end_from : ℕ → List ℕ → ℕ
end_from n [] = n
end_from n (m ∷ ms) = end_from (suc m) ms

-- the octets that the field of these numbers needs
abbrev pub field_length : List ℕ → ℕ
field_length ns = (end_from 0 ns - 1) / 7 + 1

-- the shortest field that names these numbers
unfoldable pub field_of : List ℕ → List ℕ
field_of ns = field_from (has ns) 0 (field_length ns)

-- ---- records and compound items

-- the numbers strictly rise, from n on
abbrev pub RiseFrom : ℕ → List ℕ → Type 0
RiseFrom n [] = Unit {0}
RiseFrom n (m ∷ ms) = (n ≤ m) × RiseFrom (suc m) ms

-- the item of an FRN
abbrev pub item_of : ℕ → List ℕ → Element
item_of frn octets = record { number = frn - 1; octets = octets }

-- the FRN of the last of these items; 0 where there is none
abbrev pub last_frn : List Element → ℕ
last_frn items = end_from 0 (numbers items)

-- items of the category in rising FRN
pub record AreDataItems (uap : Uap) (items : List Element) : Type 0 where
  pub rising : RiseFrom 0 (numbers items)
  pub are_items : AllByRecursion (λ p. IsDataItem uap p.number p.octets) items

-- the record of these items
abbrev pub record_of : List Element → DataRecord
record_of items = record { fspec = field_of (numbers items); items = items }

-- subfields of a compound item in the order of their bits
pub record AreSubfields (table : List SubfieldFormat) (subfields : List Element) : Type 0 where
  pub rising : RiseFrom 0 (numbers subfields)
  pub are_subfields : AllByRecursion (λ p. IsSubfield (subfield_at table p.number) p.octets) subfields

-- the compound item of these subfields
abbrev pub compound_of : List Element → List ℕ
compound_of subfields = field_of (numbers subfields) ++ octets_of subfields

-- ---- elements by their sizes

-- Octets cut into elements by the size of each number from n on. A size of 0 is that of an element
-- that isn't there.
abbrev pub elements_by_size : ℕ → List ℕ → List ℕ → List Element
elements_by_size n [] octets = []
elements_by_size n (zero ∷ sizes) octets = elements_by_size (suc n) sizes octets
elements_by_size n (suc size ∷ sizes) octets = record { number = n; octets = take (suc size) octets } ∷ elements_by_size (suc n) sizes (drop (suc size) octets)

-- the octets of all sizes
abbrev pub total_size : List ℕ → ℕ
total_size [] = 0
total_size (size ∷ sizes) = size + total_size sizes

-- whether the element of a number is there by its size
abbrev pub sized : List ℕ → ℕ → Bool
sized sizes n = nat_lt 0 (slice_index sizes n)

-- A record in the making: nothing, or room for four octets of the FSPEC and then the items' octets;
-- the size of each item by its number, and the last item's FRN.
pub record IsDraft (octets sizes : List ℕ) (last : ℕ) : Type 0 where
  pub room : length octets < 4 → octets ≡ []
  pub limited : length octets ≤ record_limit
  pub count : length sizes ≡ 28
  pub total : total_size sizes ≡ length (drop 4 octets)
  pub last_is : last ≡ last_frn (elements_by_size 0 sizes (drop 4 octets))
  pub in_table : last ≤ 28
  pub none_after : (n : ℕ) → last ≤ n → slice_index sizes n ≡ 0
