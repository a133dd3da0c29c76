-- The cosine and the sine of each bit's angle are a point of the unit circle, but for rounding.
use Rattle.std.proofs.Common.{◌≡◌, subst, ℕ, ◌<◌, ◌≤◌, ◌+◌, ◌^◌, refl, arith, ℤ, Bool, true, leb, map}
use Rattle.std.specs.Prelude.{unsigned_abs}
use Rattle.std.specs.List.{list_all, range_with_len}
use Rattle.std.proofs.lemmas.Bool.{leb-true}
use Rattle.std.proofs.lemmas.List.Elements.{All-get_or}
use Rattle.std.proofs.lemmas.List.FromFn.{get_or-map-range_with_len}
use Rattle.std.proofs.lemmas.List.Sums.{AllPass-from_list_all}
use Rattle.trk_base.specs.Numbers.{isqrt}
use Rattle.plot_geometry.specs.Turns.{half_angle, right_angle_halved, norm}

-- what the test finds of each of the sixteen
passes : (p : ℤ × ℤ → Bool) (k : ℕ) → k < 16 → list_all p (map half_angle (range_with_len 0 16)) ≡ true → p (half_angle k) ≡ true
passes p k h e =
    subst (λ x. p x ≡ true) (get_or-map-range_with_len half_angle 0 16 k k (half_angle k) h (omega arith))
    (All-get_or (λ x. p x ≡ true) (map half_angle (range_with_len 0 16)) k (half_angle k) h (AllPass-from_list_all p (map half_angle (range_with_len 0 16)) e))

cosine_test : list_all (λ x. leb (unsigned_abs x.0) (2 ^ 40)) (map half_angle (range_with_len 0 16)) ≡ true
unfolding right_angle_halved isqrt
cosine_test = refl

pub cosine_le : (k : ℕ) → k < 16 → unsigned_abs (half_angle k).0 ≤ 2 ^ 40
cosine_le k h = leb-true _ _ (passes (λ x. leb (unsigned_abs x.0) (2 ^ 40)) k h cosine_test)

sine_test : list_all (λ x. leb (unsigned_abs x.1) (2 ^ 40)) (map half_angle (range_with_len 0 16)) ≡ true
unfolding right_angle_halved isqrt
sine_test = refl

pub sine_le : (k : ℕ) → k < 16 → unsigned_abs (half_angle k).1 ≤ 2 ^ 40
sine_le k h = leb-true _ _ (passes (λ x. leb (unsigned_abs x.1) (2 ^ 40)) k h sine_test)

norm_test : list_all (λ x. leb (norm x.0 x.1) (2 ^ 80 + 2 ^ 42)) (map half_angle (range_with_len 0 16)) ≡ true
unfolding right_angle_halved isqrt
norm_test = refl

pub unit_angle : (k : ℕ) → k < 16 → norm (half_angle k).0 (half_angle k).1 ≤ 2 ^ 80 + 2 ^ 42
unit_angle k h = leb-true _ _ (passes (λ x. leb (norm x.0 x.1) (2 ^ 80 + 2 ^ 42)) k h norm_test)
