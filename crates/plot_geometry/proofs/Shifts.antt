-- Rounding by 2 ^ 40 is a shift.
use Rattle.std.proofs.Common.{◌≡◌, ◌∙◌, ℕ, ◌+◌, ◌*◌, ◌/◌, ◌^◌, ◌≤◌, ℤ, pos, negsuc, ◌+ℤ◌, ◌*ℤ◌, arith, ap, refl, sym}
use Rattle.std.specs.Prelude.{FitsSigned, unsigned_abs}
use Rattle.std.specs.Int.{w128, int_div_euclid, int_shr, cast_signed, cast_unsigned}
use Rattle.std.proofs.Math.Nat.{div-div-eq-div-mul, lt_of_le_of_lt}
use Rattle.std.proofs.lemmas.Int.{ints, to_z-of_z, fits_signed_from_abs}
use lib.Signed.{mag_shr}
use Rattle.trk_base.specs.Numbers.{round}

halves : (x a m : ℕ) → x / 2 ≡ a → x / (2 * m) ≡ a / m
halves x a m e = sym (div-div-eq-div-mul x 2 m) ∙ ap (λ n. n / m) e

twice_negative : (a : ℕ) → pos 2 *ℤ negsuc a ≡ negsuc (2 * a + 1)
twice_negative a = omega (arith, ints)

twice_by_twice : (z : ℤ) (m : ℕ) → int_div_euclid (pos 2 *ℤ z) (pos (2 * m)) ≡ int_div_euclid z (pos m)
twice_by_twice (pos a) m = ap pos (halves (2 * a) a m (omega arith))
twice_by_twice (negsuc a) m = ap (λ z. int_div_euclid z (pos (2 * m))) (twice_negative a) ∙ ap negsuc (halves (2 * a + 1) a m (omega arith))

shift_is : (z : ℤ) (k : ℕ) → int_shr z k ≡ int_div_euclid z (pos (2 ^ k))
shift_is (pos a) k = refl
shift_is (negsuc a) k = refl

round_by_halves : (x : ℤ) (h : ℕ) → int_div_euclid (x +ℤ pos h) (pos (2 * h)) ≡ round x (pos (2 * h))
round_by_halves x h =
    let twice : pos 2 *ℤ (x +ℤ pos h) ≡ pos 2 *ℤ x +ℤ pos (2 * h) = omega (arith, ints) in
    sym (twice_by_twice (x +ℤ pos h) (2 * h)) ∙ ap (λ z. int_div_euclid z (pos (2 * (2 * h)))) twice

shift_rounds : (x : ℤ) → int_shr (x +ℤ pos (2 ^ 39)) 40 ≡ round x (pos (2 ^ 40))
shift_rounds x = shift_is (x +ℤ pos (2 ^ 39)) 40 ∙ round_by_halves x (2 ^ 39)

-- the code's term, where y is how it reads x
pub shifted : (x y : ℤ) → unsigned_abs x ≤ 2 ^ 125 → y ≡ x → cast_signed w128 (cast_unsigned w128 (int_shr (cast_signed w128 (cast_unsigned w128 (y +ℤ pos (2 ^ 39)))) 40)) ≡ round x (pos (2 ^ 40))
shifted x y le e =
    let fits : FitsSigned w128 (x +ℤ pos (2 ^ 39)) = fits_signed_from_abs w128 (x +ℤ pos (2 ^ 39)) (omega (arith, ints, le)) in
    (λ j. cast_signed w128 (cast_unsigned w128 (int_shr (cast_signed w128 (cast_unsigned w128 (e j +ℤ pos (2 ^ 39)))) 40)))
    ∙ ap (λ z. cast_signed w128 (cast_unsigned w128 (int_shr z 40))) (to_z-of_z w128 (x +ℤ pos (2 ^ 39)) fits)
    ∙ to_z-of_z w128 (int_shr (x +ℤ pos (2 ^ 39)) 40) (record { sfits = lt_of_le_of_lt (mag_shr (x +ℤ pos (2 ^ 39)) (2 ^ 40)) fits.sfits })
    ∙ shift_rounds x
