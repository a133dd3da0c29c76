-- Fields of presence bits: the FSPEC of a record, and the primary field of a compound item. In each
-- octet bits 8 to 2 name what follows the field, and bit 1, FX, says that the field goes on.
use Rattle.std.specs.Prelude.{◌≡◌, ℕ, zero, suc, ◌+◌, ◌-◌, ◌*◌, ◌/◌, ◌%◌, ◌<◌, Bool, true, false, ◌==◌, if◌then◌else◌, List, [], ◌∷◌, ◌++◌, length, slice_index}
use Rattle.std.specs.Int.{bit_at}

-- FX of an octet
abbrev pub fx : ℕ → ℕ
fx octet = bit_at octet 0

-- each octet but the last has FX
pub record IsExtended (octets : List ℕ) : Type 0 where
  pub some : 0 < length octets
  pub goes_on : (i : ℕ) → i + 1 < length octets → fx (slice_index octets i) ≡ 1
  pub ends : fx (slice_index octets (length octets - 1)) ≡ 0

-- Number 0 has bit 8 of the first octet, number 6 its bit 2, number 7 bit 8 of the second octet,
-- and so on.
abbrev pub presence : List ℕ → ℕ → ℕ
presence field n = bit_at (slice_index field (n / 7)) (7 - n % 7)

-- the numbers that are present, among so many from n on
abbrev pub present_from : List ℕ → ℕ → ℕ → List ℕ
present_from field n zero = []
present_from field n (suc count) = (if presence field n == 1 then n ∷ [] else []) ++ present_from field (suc n) count

-- the numbers that are present in a field
abbrev pub present : List ℕ → List ℕ
present field = present_from field 0 (7 * length field)

-- a whole field, all whose numbers stand for something
pub record IsField (known : ℕ → Bool) (field : List ℕ) : Type 0 where
  pub extended : IsExtended field
  pub all_known : (n : ℕ) → presence field n ≡ 1 → known n ≡ true

-- So many octets have FX, and all numbers in them stand for something, so the field isn't at its
-- end.
pub record Continues (known : ℕ → Bool) (octets : List ℕ) (count : ℕ) : Type 0 where
  pub goes_on : (i : ℕ) → i < count → fx (slice_index octets i) ≡ 1
  pub all_known : (n : ℕ) → n / 7 < count → presence octets n ≡ 1 → known n ≡ true

-- the octets end within the field
abbrev pub EndsInField : (ℕ → Bool) → List ℕ → Type 0
EndsInField known octets = Continues known octets (length octets)

-- the octet at that offset, which belongs to the field, has a number that stands for nothing
pub record HasSpare (known : ℕ → Bool) (octets : List ℕ) (offset : ℕ) : Type 0 where
  pub within : offset < length octets
  pub prefix : Continues known octets offset
  pub number : ℕ
  pub at_offset : number / 7 ≡ offset
  pub is_present : presence octets number ≡ 1
  pub unknown : known number ≡ false
