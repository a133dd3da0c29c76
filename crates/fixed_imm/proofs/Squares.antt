-- What is never negative.
use Rattle.std.proofs.Common.{◌≡◌, ℕ, zero, suc, ◌*◌, ℤ, pos, negsuc, neg_ℤ, ◌*ℤ◌, ◌≤ℤ◌, ◌<ℤ◌, arith, refl}
use Rattle.std.specs.Prelude.{unsigned_abs}
use Rattle.std.proofs.lemmas.Int.{ints}
use Rattle.trk_base.specs.Numbers.{round}

pub square : (z : ℤ) → z *ℤ z ≡ pos (unsigned_abs z * unsigned_abs z)
square (pos n) = refl
square (negsuc n) = refl

two_signs : (m n : ℕ) → neg_ℤ (pos m) *ℤ negsuc n ≡ pos (m * suc n)
two_signs zero n = let none : zero * suc n ≡ zero = omega arith in rw none refl
two_signs (suc m) n = refl

-- k squares
pub scaled_square : (k : ℕ) (z : ℤ) → pos k *ℤ z *ℤ z ≡ pos (k * unsigned_abs z * unsigned_abs z)
scaled_square k (pos n) = refl
scaled_square k (negsuc n) = two_signs (k * suc n) n

-- a quotient of what isn't negative
pub round_not_negative : (a : ℕ) (s : ℤ) → pos 0 <ℤ s → pos 0 ≤ℤ round (pos a) s
round_not_negative a (pos s) some = omega (arith, ints)
round_not_negative a (negsuc s) some = absurd (omega (arith, ints))
