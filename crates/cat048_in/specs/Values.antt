-- What the octets of an item of a target report say (ASTERIX, Part 4, category 048). An item that
-- isn't of its length says nothing.
use Rattle.std.specs.Prelude.{ℕ, ◌/◌, ◌%◌, ◌^◌, Bool, false, nat_lt, ◌||◌, if◌then◌else◌, List, [], ◌∷◌, Option, Some, None, ℤ}
use Rattle.std.specs.Option.{option_map, option_and_then}
use Rattle.trk_base.specs.Numbers.{day}
use Rattle.asterix_frame.specs.Values.{from_two, two_octets, three_octets, signed, has_bit}

-- I048/140: a time of day, in 1/128 s, is below a day
abbrev pub below_day : Option ℕ → Option ℕ
below_day None = None
below_day (Some time) = if nat_lt time day then Some time else None

-- I048/020, its first octet: TYP is bits 8 to 6
abbrev pub kind_of : List ℕ → Option ℕ
kind_of (first ∷ _) = Some (first / 2 ^ 5 % 8)
kind_of _ = None

-- SIM is bit 5
abbrev pub simulated_of : List ℕ → Bool
simulated_of (first ∷ _) = has_bit first 5
simulated_of _ = false

-- SPI is bit 3
abbrev pub spi_of : List ℕ → Bool
spi_of (first ∷ _) = has_bit first 3
spi_of _ = false

-- RAB is bit 2: a report from the field monitor
abbrev pub monitor_of : List ℕ → Bool
monitor_of (first ∷ _) = has_bit first 2
monitor_of _ = false

-- TST is bit 8 of the first extension
abbrev pub test_of : List ℕ → Bool
test_of (_ ∷ extension ∷ _) = has_bit extension 8
test_of _ = false

-- I048/040: RHO and THETA
abbrev pub polar_of : List ℕ → Option (ℕ × ℕ)
polar_of (r1 ∷ r0 ∷ t1 ∷ t0 ∷ []) = Some (from_two r1 r0, from_two t1 t0)
polar_of _ = None

-- Items 070 and 090 begin with V, bit 16, the value isn't validated, and G, bit 15, it is garbled.
abbrev pub is_doubtful : ℕ → Bool
is_doubtful number = has_bit number 16 || has_bit number 15

-- the number of such an item, where V and G are 0
abbrev pub undoubted : List ℕ → Option ℕ
undoubted octets = option_and_then (λ number. if is_doubtful number then None else Some number) (two_octets octets)

-- I048/070: the code's 12 bits
abbrev pub code_of : List ℕ → Option ℕ
code_of octets = option_map (λ number. number % 2 ^ 12) (undoubted octets)

-- I048/090: the level's 14 bits in 1/4 FL
abbrev pub level_of : List ℕ → Option ℤ
level_of octets = option_map (λ number. signed 14 (number % 2 ^ 14)) (undoubted octets)

-- I048/220: the address's 24 bits
abbrev pub address_of : List ℕ → Option ℕ
address_of octets = option_map (λ number. number % 2 ^ 24) (three_octets octets)
