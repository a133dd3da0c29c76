-- Which case of a cost, and of a gate, holds.
use Rattle.std.proofs.Common.{◌≡◌, ℕ, ◌+◌, ◌*◌, ◌/◌, ◌<◌, ◌≤◌, ◌^◌, true, false, Option, Some, None, inl, inr, arith, sym, ◌∙◌, refl, ℤ, pos, ◌-ℤ◌}
use Rattle.std.specs.Prelude.{◌⊎◌, unsigned_abs}
use Rattle.std.specs.Int.{w64, cast_signed, cast_unsigned}
use Rattle.std.proofs.lemmas.Int.{to_z-of_z, fits_signed_from_abs}
use Rattle.std.proofs.lemmas.Bool.{cond-true, cond-false, and_left, and_right, and_from, le-leb, lt-leb}
use Rattle.std.proofs.lemmas.Nat.{mul-le}
use Rattle.trk_base.proofs.Sizes.{round_within}
use Rattle.plot_geometry.specs.Plots.{PlanePlot}
use Rattle.fixed_imm.specs.Values.{AxisState}
use Rattle.fixed_imm.specs.Aims.{AimState, mixed_aim}
use Rattle.fixed_imm.specs.Bounds.{time_step}
use Rattle.fixed_imm.specs.Filter.{mixed_axis, predicted, combined}
use Rattle.gating.specs.Gating.{axis_cost, within_gate, cost_of, is_another, gate}
use Rattle.gating.specs.MixedGating.{mixed_innovation, mixed_variance, mixed_cost}

pub axis_cost_is : (e : ℤ) (size n : ℕ) → size ≡ unsigned_abs e → (2 * (256 * size * size) + n) / (2 * n) ≡ axis_cost e n
unfolding axis_cost
axis_cost_is e size n h =
    let square : 256 * size * size ≡ 256 * (unsigned_abs e * unsigned_abs e) = (λ j. 256 * h j * h j) ∙ omega arith in
    (λ j. (2 * square j + n) / (2 * n))

pub axis_cost_size : (e : ℤ) (n : ℕ) → unsigned_abs e ≤ 512000 → 1 ≤ n → axis_cost e n ≤ 2 ^ 47
unfolding axis_cost
axis_cost_size e n h some =
    omega (arith, round_within (pos (256 * (unsigned_abs e * unsigned_abs e))) n some, mul-le (unsigned_abs e) (unsigned_abs e) 512000 512000 h h)

pub above : (x y : ℕ) → 4096 < x + y → let o : Option ℕ = None in o ≡ within_gate x y
unfolding within_gate
above x y h = sym (cond-false _ _ _ (lt-leb (x + y) 4096 h))

pub within : (x y : ℕ) → x + y ≤ 4096 → let o : Option ℕ = Some (x + y) in o ≡ within_gate x y
unfolding within_gate
within x y h = sym (cond-true _ _ _ (le-leb (x + y) 4096 h))

pub too_far : (ex : ℤ) (sx : ℕ) (ey : ℤ) (sy : ℕ) → (512000 < unsigned_abs ex) ⊎ (512000 < unsigned_abs ey) → let o : Option ℕ = None in o ≡ cost_of ex sx ey sy
unfolding cost_of
too_far ex sx ey sy (inl h) = sym (cond-false _ _ _ (and_left _ _ (lt-leb (unsigned_abs ex) 512000 h)))
too_far ex sx ey sy (inr h) = sym (cond-false _ _ _ (and_right _ _ (lt-leb (unsigned_abs ey) 512000 h)))

pub near : (ex : ℤ) (sx : ℕ) (ey : ℤ) (sy : ℕ) → unsigned_abs ex ≤ 512000 → unsigned_abs ey ≤ 512000 → within_gate (axis_cost ex sx) (axis_cost ey sy) ≡ cost_of ex sx ey sy
unfolding cost_of
near ex sx ey sy hx hy = sym (cond-true _ _ _ (and_from _ _ (le-leb (unsigned_abs ex) 512000 hx) (le-leb (unsigned_abs ey) 512000 hy)))

-- where the cost of x alone is above the gate's
pub too_dear : (ex : ℤ) (sx : ℕ) (ey : ℤ) (sy x : ℕ) → unsigned_abs ex ≤ 512000 → unsigned_abs ey ≤ 512000 → x ≡ axis_cost ex sx → 4096 < x → let o : Option ℕ = None in o ≡ cost_of ex sx ey sy
too_dear ex sx ey sy x hx hy e h = above _ _ (omega (arith, e, h)) ∙ near ex sx ey sy hx hy

-- a gate, where both are not of another aircraft, is the cost of the mixed axes
mixed_cost_is : (x y : AxisState) (d : ℤ) (p : PlanePlot)
    → mixed_cost (mixed_axis x) (mixed_axis y) d p ≡ cost_of (p.x -ℤ (combined x d).0) (unsigned_abs (combined x d).2 + p.rx) (p.y -ℤ (combined y d).0) (unsigned_abs (combined y d).2 + p.ry)
unfolding mixed_cost mixed_innovation mixed_variance combined predicted
mixed_cost_is x y d p = refl

pub of_another : (a : AimState) (p : PlanePlot) → is_another a.address a.code p ≡ true → let o : Option ℕ = None in o ≡ gate a p
unfolding gate
of_another a p e = sym (cond-true _ _ _ e)

pub of_this : (a : AimState) (p : PlanePlot) → is_another a.address a.code p ≡ false → mixed_cost (mixed_axis a.x) (mixed_axis a.y) (time_step a.time p.key.time) p ≡ gate a p
unfolding gate
of_this a p same = mixed_cost_is a.x a.y (time_step a.time p.key.time) p ∙ sym (cond-false _ _ _ same)

-- the cases of the cost of mixed axes
pub x_too_far : (x y : AxisState) (d : ℤ) (p : PlanePlot) → 512000 < unsigned_abs (mixed_innovation x d p.x) → let o : Option ℕ = None in o ≡ mixed_cost x y d p
unfolding mixed_cost
x_too_far x y d p h = too_far _ _ _ _ (inl h)

pub y_too_far : (x y : AxisState) (d : ℤ) (p : PlanePlot) → 512000 < unsigned_abs (mixed_innovation y d p.y) → let o : Option ℕ = None in o ≡ mixed_cost x y d p
unfolding mixed_cost
y_too_far x y d p h = too_far _ _ _ _ (inr h)

pub x_too_dear : (x y : AxisState) (d : ℤ) (p : PlanePlot) (n : ℕ) → unsigned_abs (mixed_innovation x d p.x) ≤ 512000 → unsigned_abs (mixed_innovation y d p.y) ≤ 512000
    → n ≡ axis_cost (mixed_innovation x d p.x) (mixed_variance x d p.rx) → 4096 < n → let o : Option ℕ = None in o ≡ mixed_cost x y d p
unfolding mixed_cost
x_too_dear x y d p n hx hy e h = too_dear _ _ _ _ n hx hy e h

pub both_near : (x y : AxisState) (d : ℤ) (p : PlanePlot) → unsigned_abs (mixed_innovation x d p.x) ≤ 512000 → unsigned_abs (mixed_innovation y d p.y) ≤ 512000
    → within_gate (axis_cost (mixed_innovation x d p.x) (mixed_variance x d p.rx)) (axis_cost (mixed_innovation y d p.y) (mixed_variance y d p.ry)) ≡ mixed_cost x y d p
unfolding mixed_cost
both_near x y d p hx hy = near _ _ _ _ hx hy

-- values of the code: how it reads an innovation, and a position
pub as_read : (x : ℤ) → unsigned_abs x ≤ 2 ^ 31 → cast_signed w64 (cast_unsigned w64 x) ≡ x
as_read x h = to_z-of_z w64 x (fits_signed_from_abs w64 x (omega (arith, h)))

pub innovation_read : (x : AxisState) (e d e' z z' : ℤ) → e ≡ mixed_innovation x d z → d ≡ e' → z ≡ z' → unsigned_abs e ≤ 2 ^ 31 → cast_signed w64 (cast_unsigned w64 e) ≡ mixed_innovation x e' z'
innovation_read x e d e' z z' h k l near = as_read e near ∙ h ∙ (λ j. mixed_innovation x (k j) (l j))

-- the same of an aim that is mixed already
pub mixed_another : (m a : AimState) (p : PlanePlot) → m ≡ mixed_aim a → is_another m.address m.code p ≡ true → let o : Option ℕ = None in o ≡ gate a p
mixed_another m a p e other = of_another a p ((λ j. is_another (sym e j).address (sym e j).code p) ∙ other)

pub mixed_this : (m a : AimState) (p : PlanePlot) → m ≡ mixed_aim a → is_another m.address m.code p ≡ false → mixed_cost m.x m.y (time_step m.time p.key.time) p ≡ gate a p
mixed_this m a p e same =
    (λ j. mixed_cost (e j).x (e j).y (time_step (e j).time p.key.time) p)
    ∙ of_this a p ((λ j. is_another (sym e j).address (sym e j).code p) ∙ same)
