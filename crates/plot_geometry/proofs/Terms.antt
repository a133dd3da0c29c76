-- Terms of the code that the size lemmas do not name.
use Rattle.std.proofs.Common.{◌≡◌, ◌∙◌, ℕ, ◌≤◌, ◌^◌, lit<, T, ltb, ℤ, pos, negsuc, arith, ap, sym, subst}
use Rattle.std.specs.Prelude.{unsigned_abs, FitsSigned}
use Rattle.std.proofs.lemmas.Int.{ints, clamps, to_z-of_z}
use Rattle.std.specs.Int.{w16, w64, w128, int_max, cast_signed, cast_unsigned}
use lib.Signed.{non_neg}
use Rattle.plot_geometry.specs.Plane.{not_below_zero}
use Rattle.plot_geometry.specs.Turns.{norm}
use Rattle.plot_geometry.proofs.Lengths.{side}
use Rattle.plot_geometry.proofs.Bounds.{not_below_zero_le}
use Rattle.trk_base.proofs.Sizes.{Is, var, is_var, is_cast, is_cast64}

-- what a call gave
pub given : {r x : ℤ} (m : ℕ) → r ≡ x → unsigned_abs x ≤ m → T (ltb m (2 ^ 127)) → Is (cast_signed w128 (cast_unsigned w128 r)) x m
given m e h t = is_cast (record { same = e; within = h }) (lit< t)

-- what a call gave for a number of 64 bits
pub given64 : {r x : ℤ} (m : ℕ) → r ≡ cast_signed w64 (cast_unsigned w64 x) → unsigned_abs x ≤ m → T (ltb m (2 ^ 63)) → T (ltb m (2 ^ 127)) → Is (cast_signed w128 (cast_unsigned w128 r)) x m
given64 m e h s t = is_cast (record { same = e ∙ (is_cast64 (is_var m h) (lit< s)).same; within = h }) (lit< t)

-- what a call gave for a number of 16 bits
pub given16 : {r : ℤ} (x : ℤ) → r ≡ cast_signed w16 (cast_unsigned w16 x) → FitsSigned w16 x → Is (cast_signed w128 (cast_unsigned w128 r)) x 32768
given16 x e fits = is_cast (record { same = e ∙ to_z-of_z w16 x fits; within = omega (arith, ints) }) (lit< tt)

-- the greater of a number and 0
max_pos : (n : ℕ) → int_max (pos n) (pos 0) ≡ pos n
max_pos n = omega (arith, ints, clamps)

max_neg : (n : ℕ) → int_max (negsuc n) (pos 0) ≡ pos 0
max_neg n = omega (arith, ints, clamps)

pub max_zero : (z : ℤ) → unsigned_abs (int_max z (pos 0)) ≡ not_below_zero z
max_zero (pos n) = ap unsigned_abs (max_pos n)
max_zero (negsuc n) = ap unsigned_abs (max_neg n)

pub max_non_neg : (z : ℤ) → T (non_neg (int_max z (pos 0)))
max_non_neg (pos n) = subst (λ z. T (non_neg z)) (sym (max_pos n)) tt
max_non_neg (negsuc n) = subst (λ z. T (non_neg z)) (sym (max_neg n)) tt

pub is_max : {r x y : ℤ} {m : ℕ} → r ≡ int_max x (pos 0) → Is x y m → Is r (int_max y (pos 0)) m
is_max {y = y} e h = record { same = e ∙ ap (λ z. int_max z (pos 0)) h.same; within = omega (arith, max_zero y, not_below_zero_le y, h.within) }

-- a sine and a cosine, through their bits
pub norm_through : (s c : ℤ) → norm s c ≤ 2 ^ 81 → ◌≡◌ {A = ℤ × ℤ} (cast_signed w64 (cast_unsigned w64 s), cast_signed w64 (cast_unsigned w64 c)) (s, c)
norm_through s c h =
    let sides = side (unsigned_abs s) (unsigned_abs c) h in
    λ i. ((is_cast64 (is_var {x = s} (2 ^ 41) sides.0) (lit< tt)).same i, (is_cast64 (is_var {x = c} (2 ^ 41) sides.1) (lit< tt)).same i)

-- and through those of 128 bits
pub wide_through : (s c : ℤ) → norm s c ≤ 2 ^ 81 → ◌≡◌ {A = ℤ × ℤ} (cast_signed w128 (cast_unsigned w128 s), cast_signed w128 (cast_unsigned w128 c)) (s, c)
wide_through s c h =
    let sides = side (unsigned_abs s) (unsigned_abs c) h in
    λ i. ((var s (2 ^ 41) sides.0 tt).same i, (var c (2 ^ 41) sides.1 tt).same i)
