-- Whole numbers: rounding, roots, the piecewise linear power of two, and time.
use Rattle.std.specs.Prelude.{◌≡◌, ◌⊎◌, ◌<◌, ◌≤◌, ℕ, zero, suc, ◌+◌, ◌-◌, ◌*◌, ◌/◌, ◌%◌, ◌^◌, nat_le, if◌then◌else◌, ℤ, pos, ◌+ℤ◌, ◌*ℤ◌, ◌≤ℤ◌}
use Rattle.std.specs.Int.{int_div_euclid, int_max, int_min}

-- a / b to the nearest whole number, halves upwards, for a positive b: (2a + b) / (2b), rounded down
abbrev pub round : ℤ → ℤ → ℤ
round a b = int_div_euclid (pos 2 *ℤ a +ℤ b) (pos 2 *ℤ b)

-- the nearest number in the range
abbrev pub clamp : ℤ → ℤ → ℤ → ℤ
clamp x low high = int_max low (int_min x high)

-- x is neither below low nor above high
pub record IsBetween (low x high : ℤ) : Type 0 where
  pub from : low ≤ℤ x
  pub to : x ≤ℤ high

-- r is the greatest whole number whose square is at most n
pub record IsRoot (n r : ℕ) : Type 0 where
  pub low : r * r ≤ n
  pub high : n < (r + 1) * (r + 1)

-- the root so far, with k binary digits still to find
abbrev pub root_from : ℕ → ℕ → ℕ → ℕ
root_from zero r n = r
root_from (suc k) r n = root_from k (if nat_le ((r + 2 ^ k) * (r + 2 ^ k)) n then r + 2 ^ k else r) n

-- the greatest whole number whose square is at most n, for n below 2 ^ 128, by its 64 binary digits
unfoldable pub isqrt : ℕ → ℕ
isqrt n = root_from 64 0 n

-- two to the power of -q / 65,536, in units of 2 ^ -30: exact at the whole powers down to 2 ^ -30, linear between them, and 0 from 2 ^ -31 on
unfoldable pub exp2_lin : ℕ → ℕ
exp2_lin q = if nat_le 31 (q / 65536) then 0 else 2 ^ 30 / 2 ^ (q / 65536) - (2 ^ 29 / 2 ^ (q / 65536) * (q % 65536)) / 65536

-- units of time, of 1/128 s, in a day
abbrev pub day : ℕ
day = 11059200

-- half a second of time is a slot
abbrev pub slot_of : ℕ → ℕ
slot_of time = time / 64

-- time has this time of day, and lies from half a day before last on and less than half a day after it; or it is 0, where all such are negative
abbrev pub IsUnwrapped : ℕ → ℕ → ℕ → Type 0
IsUnwrapped tod last time = ((days : ℕ) × (time ≡ tod + days * day) × (last ≤ time + day / 2) × (time < last + day / 2)) ⊎ ((time ≡ 0) × (last + day / 2 ≤ tod))

-- that time: the next with this time of day from half a day after last on, less a day
abbrev pub unwrapped : ℕ → ℕ → ℕ
unwrapped tod last = let from = last + day / 2 in from + (tod + (day - from % day)) % day - day
