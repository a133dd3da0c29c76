-- How large a turned, ranged and weighted measurement is at most.
use Rattle.std.proofs.Common.{sym, subst, ℕ, zero, suc, ◌+◌, ◌-◌, ◌*◌, ◌^◌, ◌≤◌, arith, lit<, lit≤, ℤ, pos, negsuc, ◌/◌, ◌%◌, ◌+ℤ◌, ◌-ℤ◌, ◌*ℤ◌, ◌<ℤ◌, true, false, cond, eqb, Option, Some, None}
use Rattle.std.specs.Prelude.{unsigned_abs}
use Rattle.std.proofs.lemmas.Int.{ints, clamps, unsigned_abs-mul}
use Rattle.std.proofs.lemmas.Nat.{mul-le}
use Rattle.trk_base.specs.Numbers.{round, clamp, isqrt}
use Rattle.trk_base.proofs.Roots.{isqrt_root, root_le}
use Rattle.trk_base.proofs.Sizes.{round_share}
use Rattle.plot_geometry.specs.Turns.{turns, turned, half_angle, sine_cosine, scaled, norm}
use Rattle.plot_geometry.specs.Plane.{not_below_zero, unbiased, slant_range, ground_range, height_above, cross_range_sigma, squared_sine, axis_variance}
use Rattle.plot_geometry.proofs.TurnLaws.{step, turns_done, turns_begin}
use Rattle.plot_geometry.proofs.Lengths.{turn_norm, side}

-- each turn adds 2 ^ 44 at most to the square of the length
turns_norm : (k angle : ℕ) (sc : ℤ × ℤ) → k ≤ 16 → norm sc.0 sc.1 ≤ 2 ^ 80 + (16 - k) * 2 ^ 44 → norm (turns k angle sc).0 (turns k angle sc).1 ≤ 2 ^ 80 + 16 * 2 ^ 44
turns_norm zero angle sc h small = subst (λ (p : ℤ × ℤ). norm p.0 p.1 ≤ 2 ^ 80 + 16 * 2 ^ 44) (sym (turns_done angle sc)) small
turns_norm (suc k) angle sc h small =
    let P : ℤ × ℤ → Type 0 = λ p. norm p.0 p.1 ≤ 2 ^ 80 + (16 - k) * 2 ^ 44 in
    let bit = eqb (angle / 2 ^ k % 2) 1 in
    let next : P (cond bit (turned (half_angle k) sc) sc) = elim bit as (λ t. P (cond t (turned (half_angle k) sc) sc)) [
      | true ↦ omega (arith, turn_norm k sc.0 sc.1 (omega arith) (omega arith))
      | false ↦ omega arith
    ] in
    subst (λ (p : ℤ × ℤ). norm p.0 p.1 ≤ 2 ^ 80 + 16 * 2 ^ 44) (sym (step k angle sc)) (turns_norm k angle (cond bit (turned (half_angle k) sc) sc) (omega arith) next)

-- so a sine and a cosine are at most twice one
pub sine_small : (angle : ℕ) → (unsigned_abs (sine_cosine angle).0 ≤ 2 ^ 41) × (unsigned_abs (sine_cosine angle).1 ≤ 2 ^ 41)
sine_small angle =
    let near : norm (sine_cosine angle).0 (sine_cosine angle).1 ≤ 2 ^ 80 + 16 * 2 ^ 44 = subst (λ (p : ℤ × ℤ). norm p.0 p.1 ≤ 2 ^ 80 + 16 * 2 ^ 44) (turns_begin angle) (turns_norm 16 angle (pos 0, pos (2 ^ 40)) (lit≤ tt) (lit≤ tt)) in
    side (unsigned_abs (sine_cosine angle).0) (unsigned_abs (sine_cosine angle).1) (omega arith)

-- and a length times one is at most twice the length
pub scaled_twice : (length sine : ℤ) → unsigned_abs sine ≤ 2 ^ 41 → unsigned_abs (scaled length sine) ≤ 2 * unsigned_abs length
scaled_twice length sine h =
    round_share (length *ℤ sine) (2 ^ 40) (2 * unsigned_abs length) (lit< tt)
    (rw (unsigned_abs-mul length sine) (omega (arith, mul-le (unsigned_abs length) (unsigned_abs sine) (unsigned_abs length) (2 ^ 41) (omega arith) h)))

pub not_below_zero_le : (z : ℤ) → not_below_zero z ≤ unsigned_abs z
not_below_zero_le (pos n) = omega arith
not_below_zero_le (negsuc n) = omega arith

-- an amount, divided by a positive number that it is at most m times
shared : (x b : ℤ) (m : ℕ) → pos 0 <ℤ b → unsigned_abs x ≤ m * unsigned_abs b → unsigned_abs (round x b) ≤ m
shared x (pos b) m some h = round_share x b m (omega (arith, ints)) h
shared x (negsuc b) m some h = absurd (omega (arith, ints))

pub slant_range_le : (rho : ℕ) (bias gain : ℤ) → rho ≤ 65535 → unsigned_abs bias ≤ 1000 → unsigned_abs gain ≤ 10000 → slant_range rho bias gain ≤ 2 ^ 26
unfolding slant_range
slant_range_le rho bias gain in16 small_bias small_gain =
    let some : pos 0 <ℤ (pos 100000 +ℤ gain) = omega (arith, ints) in
    let share : unsigned_abs (pos 100000 *ℤ (pos 463 *ℤ pos rho -ℤ pos 926 *ℤ bias)) ≤ 2 ^ 26 * unsigned_abs (pos 100000 +ℤ gain) = omega (arith, ints) in
    omega (arith, not_below_zero_le (unbiased rho bias gain), shared (pos 100000 *ℤ (pos 463 *ℤ pos rho -ℤ pos 926 *ℤ bias)) (pos 100000 +ℤ gain) (2 ^ 26) some share)

pub ground_range_le : (slant : ℕ) (level : Option ℤ) (height : ℤ) → slant ≤ 2 ^ 26 → ground_range slant level height ≤ slant
unfolding ground_range
ground_range_le slant None height h = omega arith
ground_range_le slant (Some level) height h =
    let n = slant * slant - unsigned_abs (height_above level height) * unsigned_abs (height_above level height) in
    root_le n (isqrt n) slant (isqrt_root n (omega (arith, mul-le slant slant (2 ^ 26) (2 ^ 26) h h))) (omega arith)

pub cross_range_sigma_le : (range sigma : ℕ) → range ≤ 2 ^ 26 → sigma ≤ 200 → cross_range_sigma range sigma ≤ 2 ^ 21
unfolding cross_range_sigma
cross_range_sigma_le range sigma h k = round_share (pos (range * sigma * 710)) (113 * 65536) (2 ^ 21) (lit< tt) (omega (arith, mul-le range sigma (2 ^ 26) 200 h k))

clamped_le : (z : ℤ) → unsigned_abs (clamp z (pos 0) (pos (2 ^ 20))) ≤ 2 ^ 20
clamped_le z = omega (arith, ints, clamps)

pub squared_sine_le : (sine : ℤ) → squared_sine sine ≤ 2 ^ 20
unfolding squared_sine
squared_sine_le sine = clamped_le (round (sine *ℤ sine) (pos (2 ^ 60)))

pub axis_variance_le : (along across cosine sine : ℕ) → along ≤ 64000 → across ≤ 2 ^ 21 → cosine ≤ 2 ^ 20 → sine ≤ 2 ^ 20 → axis_variance along across cosine sine ≤ 2 ^ 46
unfolding axis_variance
axis_variance_le along across cosine sine a b c d =
    let first = mul-le (along * along) cosine (64000 * 64000) (2 ^ 20) (mul-le along along 64000 64000 a a) c in
    let second = mul-le (across * across) sine (2 ^ 42) (2 ^ 20) (mul-le across across (2 ^ 21) (2 ^ 21) b b) d in
    let share : unsigned_abs (round (pos (along * along * cosine + across * across * sine)) (pos (2 ^ 20))) ≤ 2 ^ 46 = round_share (pos (along * along * cosine + across * across * sine)) (2 ^ 20) (2 ^ 46) (lit< tt) (omega arith) in
    omega arith

pub axis_variance_least : (along across cosine sine : ℕ) → 1 ≤ axis_variance along across cosine sine
unfolding axis_variance
axis_variance_least along across cosine sine = omega arith
