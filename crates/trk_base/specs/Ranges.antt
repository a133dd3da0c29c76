-- The ranges of what a radar reports.
use Rattle.std.specs.Prelude.{ℕ, ◌<◌, ◌≤◌, ◌^◌, Option, ℤ, pos, neg_ℤ, ◌≤ℤ◌}
use Rattle.std.specs.Option.{ForSome}
use Rattle.trk_base.specs.Numbers.{day}

-- a kind of detection, as TYP of I048/020 tells it: 0 is none
abbrev pub IsKind : ℕ → Type 0
IsKind kind = (1 ≤ kind) × (kind ≤ 7)

-- in units of 1/128 s
abbrev pub IsTimeOfDay : ℕ → Type 0
IsTimeOfDay tod = tod < day

-- a Mode 3/A code has 12 bits
abbrev pub IsCode : Option ℕ → Type 0
IsCode code = ForSome code (λ c. c < 4096)

-- a flight level in 1/4 FL has 14 bits, with its sign
abbrev pub IsLevel : Option ℤ → Type 0
IsLevel level = ForSome level (λ l. (neg_ℤ (pos 8192) ≤ℤ l) × (l ≤ℤ pos 8191))

-- an aircraft's address has 24 bits
abbrev pub IsAddress : Option ℕ → Type 0
IsAddress address = ForSome address (λ a. a < 2 ^ 24)
