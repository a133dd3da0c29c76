-- Rounding by a power of two is a shift.
use Rattle.std.proofs.Common.{◌≡◌, ℕ, zero, suc, ◌+◌, ◌-◌, ◌*◌, ◌^◌, ◌/◌, ◌%◌, ◌<◌, ◌≤◌, ℤ, pos, negsuc, ◌+ℤ◌, ◌*ℤ◌, arith, refl, ap, sym, ◌∙◌}
use Rattle.std.specs.Int.{w64, w128, int_div_euclid, int_shr, cast_signed, cast_unsigned}
use Rattle.std.specs.Prelude.{FitsSigned, unsigned_abs}
use Rattle.std.proofs.Math.Nat.{div-div-eq-div-mul, lt_of_le_of_lt}
use Rattle.std.proofs.Math.Pow.{pow_mono}
use Rattle.std.proofs.lemmas.Int.{ints, to_z-of_z, to_z_pos, fits_signed_from_abs}
use Rattle.std.proofs.lemmas.Nat.{one_shl}
use lib.Signed.{mag, mag_shr}
use Rattle.trk_base.specs.Numbers.{round}

halves : (x a m : ℕ) → x / 2 ≡ a → x / (2 * m) ≡ a / m
halves x a m e = sym (div-div-eq-div-mul x 2 m) ∙ ap (λ n. n / m) e

twice_negative : (a : ℕ) → pos 2 *ℤ negsuc a ≡ negsuc (2 * a + 1)
twice_negative a = omega (arith, ints)

twice_by_twice : (z : ℤ) (m : ℕ) → int_div_euclid (pos 2 *ℤ z) (pos (2 * m)) ≡ int_div_euclid z (pos m)
twice_by_twice (pos a) m = ap pos (halves (2 * a) a m (omega arith))
twice_by_twice (negsuc a) m = ap (λ z. int_div_euclid z (pos (2 * m))) (twice_negative a) ∙ ap negsuc (halves (2 * a + 1) a m (omega arith))

shift_is : (z : ℤ) (k : ℕ) → int_shr z k ≡ int_div_euclid z (pos (2 ^ k))
shift_is (pos a) k = refl
shift_is (negsuc a) k = refl

round_by_halves : (x : ℤ) (h : ℕ) → int_div_euclid (x +ℤ pos h) (pos (2 * h)) ≡ round x (pos (2 * h))
round_by_halves x h =
    let twice : pos 2 *ℤ (x +ℤ pos h) ≡ pos 2 *ℤ x +ℤ pos (2 * h) = omega (arith, ints) in
    sym (twice_by_twice (x +ℤ pos h) (2 * h)) ∙ ap (λ z. int_div_euclid z (pos (2 * (2 * h)))) twice

power : (k : ℕ) → 2 * 2 ^ k ≡ 2 ^ suc k
power k = omega arith

shift_rounds_suc : (x : ℤ) (k : ℕ) → int_shr (x +ℤ pos (2 ^ k)) (suc k) ≡ round x (pos (2 ^ suc k))
shift_rounds_suc x k = shift_is (x +ℤ pos (2 ^ k)) (suc k) ∙ (λ j. int_div_euclid (x +ℤ pos (2 ^ k)) (pos (sym (power k) j))) ∙ round_by_halves x (2 ^ k) ∙ (λ j. round x (pos (power k j)))

shift_rounds : (x : ℤ) (k : ℕ) → 1 ≤ k → int_shr (x +ℤ pos (2 ^ (k - 1))) k ≡ round x (pos (2 ^ k))
shift_rounds x zero some = absurd (omega arith)
shift_rounds x (suc k) some = let e : suc k - 1 ≡ k = omega arith in rw e (shift_rounds_suc x k)

shift_size : (z : ℤ) (k n : ℕ) → mag z < n → mag (int_shr z k) < n
shift_size z k n h = lt_of_le_of_lt (mag_shr z (2 ^ k)) h

half64 : (k : ℕ) → k ≤ 31 → cast_signed w64 (1 * 2 ^ k % 18446744073709551616) ≡ pos (2 ^ k)
half64 k h =
    let small : 2 ^ k ≤ 2 ^ 31 = pow_mono h in
    ap (cast_signed w64) (one_shl k 64 (omega arith)) ∙ to_z_pos w64 (2 ^ k) (omega arith)

half128 : (k : ℕ) → k ≤ 31 → cast_signed w128 (1 * 2 ^ k % 340282366920938463463374607431768211456) ≡ pos (2 ^ k)
half128 k h =
    let small : 2 ^ k ≤ 2 ^ 31 = pow_mono h in
    ap (cast_signed w128) (one_shl k 128 (omega arith)) ∙ to_z_pos w128 (2 ^ k) (omega arith)

-- the code's terms, where y is how it reads x
pub shifted64 : (x y : ℤ) (k : ℕ) → 1 ≤ k → k ≤ 32 → unsigned_abs x ≤ 2 ^ 62 → y ≡ x → cast_signed w64 (cast_unsigned w64 (int_shr (cast_signed w64 (cast_unsigned w64 (y +ℤ cast_signed w64 (1 * 2 ^ (k - 1) % 18446744073709551616)))) k)) ≡ round x (pos (2 ^ k))
shifted64 x y k some most le e =
    let less : k - 1 ≤ 31 = omega arith in
    let small : 2 ^ (k - 1) ≤ 2 ^ 31 = pow_mono less in
    let fits : FitsSigned w64 (x +ℤ pos (2 ^ (k - 1))) = fits_signed_from_abs w64 (x +ℤ pos (2 ^ (k - 1))) (omega (arith, ints)) in
    (λ j. cast_signed w64 (cast_unsigned w64 (int_shr (cast_signed w64 (cast_unsigned w64 (e j +ℤ half64 (k - 1) less j))) k)))
    ∙ ap (λ z. cast_signed w64 (cast_unsigned w64 (int_shr z k))) (to_z-of_z w64 (x +ℤ pos (2 ^ (k - 1))) fits)
    ∙ to_z-of_z w64 (int_shr (x +ℤ pos (2 ^ (k - 1))) k) (record { sfits = shift_size _ k _ fits.sfits })
    ∙ shift_rounds x k some

pub shifted128 : (x y : ℤ) (k : ℕ) → 1 ≤ k → k ≤ 32 → unsigned_abs x ≤ 2 ^ 125 → y ≡ x → cast_signed w128 (cast_unsigned w128 (int_shr (cast_signed w128 (cast_unsigned w128 (y +ℤ cast_signed w128 (1 * 2 ^ (k - 1) % 340282366920938463463374607431768211456)))) k)) ≡ round x (pos (2 ^ k))
shifted128 x y k some most le e =
    let less : k - 1 ≤ 31 = omega arith in
    let small : 2 ^ (k - 1) ≤ 2 ^ 31 = pow_mono less in
    let fits : FitsSigned w128 (x +ℤ pos (2 ^ (k - 1))) = fits_signed_from_abs w128 (x +ℤ pos (2 ^ (k - 1))) (omega (arith, ints)) in
    (λ j. cast_signed w128 (cast_unsigned w128 (int_shr (cast_signed w128 (cast_unsigned w128 (e j +ℤ half128 (k - 1) less j))) k)))
    ∙ ap (λ z. cast_signed w128 (cast_unsigned w128 (int_shr z k))) (to_z-of_z w128 (x +ℤ pos (2 ^ (k - 1))) fits)
    ∙ to_z-of_z w128 (int_shr (x +ℤ pos (2 ^ (k - 1))) k) (record { sfits = shift_size _ k _ fits.sfits })
    ∙ shift_rounds x k some
