-- What the octets of an item say where the form is the same in all categories (ASTERIX, Part 1):
-- numbers, their bits, and data source identifiers. Octets of another length say nothing.
use Rattle.std.specs.Prelude.{ℕ, ◌+◌, ◌-◌, ◌*◌, ◌^◌, Bool, ◌==◌, nat_lt, if◌then◌else◌, List, [], ◌∷◌, Option, Some, None, ℤ, pos, ◌-ℤ◌}
use Rattle.std.specs.Int.{bit_at, bytes_high_first}

-- ---- whole numbers, the highest octet first

abbrev pub from_two : ℕ → ℕ → ℕ
from_two high low = 256 * high + low

abbrev pub from_three : ℕ → ℕ → ℕ → ℕ
from_three high middle low = 65536 * high + 256 * middle + low

-- a number in so many octets
abbrev pub big_endian : ℕ → ℕ → List ℕ
big_endian octets number = bytes_high_first octets number

-- in one octet
abbrev pub one_octet : List ℕ → Option ℕ
one_octet (octet ∷ []) = Some octet
one_octet _ = None

-- in two
abbrev pub two_octets : List ℕ → Option ℕ
two_octets (high ∷ low ∷ []) = Some (from_two high low)
two_octets _ = None

-- in three
abbrev pub three_octets : List ℕ → Option ℕ
three_octets (high ∷ middle ∷ low ∷ []) = Some (from_three high middle low)
three_octets _ = None

-- a number of so many bits, read as two's complement
abbrev pub signed : ℕ → ℕ → ℤ
signed bits number = if nat_lt number (2 ^ (bits - 1)) then pos number else pos number -ℤ pos (2 ^ bits)

-- bit n of a number is set, counted as the standard does: bit 1 is the lowest
abbrev pub has_bit : ℕ → ℕ → Bool
has_bit number n = bit_at number (n - 1) == 1

-- ---- identifiers

-- SAC and SIC, as a data source identifier has them
abbrev pub data_source : List ℕ → Option (ℕ × ℕ)
data_source (sac ∷ sic ∷ []) = Some (sac, sic)
data_source _ = None
