-- A step over the bits of an angle, and where its angle is a quarter turn.
use Rattle.std.proofs.Common.{◌≡◌, ◌∙◌, ap, sym, ℕ, zero, suc, ◌+◌, ◌-◌, ◌*◌, ◌/◌, ◌%◌, ◌^◌, ◌<◌, ◌≢◌, refl, arith, ℤ, pos, negsuc, neg_ℤ, ◌+ℤ◌, ◌*ℤ◌, cond, eqb}
use Rattle.std.specs.Prelude.{bit_and}
use Rattle.std.proofs.lemmas.Bool.{eq-eqb, ne_eqb}
use Rattle.std.specs.Int.{int_div_euclid}
use Rattle.std.proofs.lemmas.Int.{ints}
use Rattle.std.proofs.lemmas.Nat.{and_mask}
use Rattle.trk_base.specs.Numbers.{round, isqrt}
use Rattle.plot_geometry.specs.Turns.{turns, turned, half_angle, sine_cosine, right_angle_halved, scaled, rotated, one}

pub step : (k angle : ℕ) (sc : ℤ × ℤ) → turns (suc k) angle sc ≡ turns k angle (cond (eqb (angle / 2 ^ k % 2) 1) (turned (half_angle k) sc) sc)
unfolding turns
step k angle sc = refl

before : (k : ℕ) → 0 < k → k ≡ suc (k - 1)
before k h = omega arith

-- a bit that is set turns on
pub turns_on : (k angle : ℕ) (sc : ℤ × ℤ) → 0 < k → bit_and (angle / 2 ^ (k - 1)) 1 ≡ 1 → turns k angle sc ≡ turns (k - 1) angle (turned (half_angle (k - 1)) sc)
turns_on k angle sc h set =
    let bit : angle / 2 ^ (k - 1) % 2 ≡ 1 = sym (and_mask (angle / 2 ^ (k - 1)) 1) ∙ set in
    ap (λ n. turns n angle sc) (before k h) ∙ step (k - 1) angle sc
    ∙ ap (λ t. turns (k - 1) angle (cond t (turned (half_angle (k - 1)) sc) sc)) (eq-eqb (angle / 2 ^ (k - 1) % 2) 1 bit)

-- one that is not leaves all as it is
pub turns_past : (k angle : ℕ) (sc : ℤ × ℤ) → 0 < k → bit_and (angle / 2 ^ (k - 1)) 1 ≢ 1 → turns k angle sc ≡ turns (k - 1) angle sc
turns_past k angle sc h clear =
    let bit : angle / 2 ^ (k - 1) % 2 ≢ 1 = λ e. clear (and_mask (angle / 2 ^ (k - 1)) 1 ∙ e) in
    ap (λ n. turns n angle sc) (before k h) ∙ step (k - 1) angle sc
    ∙ ap (λ t. turns (k - 1) angle (cond t (turned (half_angle (k - 1)) sc) sc)) (ne_eqb (angle / 2 ^ (k - 1) % 2) 1 bit)

pub turns_done : (angle : ℕ) (sc : ℤ × ℤ) → turns 0 angle sc ≡ sc
unfolding turns
turns_done angle sc = refl

pub turns_begin : (angle : ℕ) → turns 16 angle (pos 0, pos (2 ^ 40)) ≡ sine_cosine angle
unfolding sine_cosine
turns_begin angle = refl

-- the four quarter turns
pub north_is : sine_cosine 0 ≡ (pos 0, pos one)
unfolding sine_cosine turns right_angle_halved isqrt
north_is = refl

pub east_is : sine_cosine 16384 ≡ (pos one, pos 0)
unfolding sine_cosine turns right_angle_halved isqrt
east_is = refl

pub south_is : sine_cosine 32768 ≡ (pos 0, neg_ℤ (pos one))
unfolding sine_cosine turns right_angle_halved isqrt
south_is = refl

pub west_is : sine_cosine 49152 ≡ (neg_ℤ (pos one), pos 0)
unfolding sine_cosine turns right_angle_halved isqrt
west_is = refl

-- what has no fraction is not rounded
whole_pos : (a : ℕ) (z : ℤ) → z ≡ pos (a * one) → round z (pos one) ≡ pos a
whole_pos a z e = ap (λ y. round y (pos one)) e ∙ ap pos (omega arith)

whole_neg : (a : ℕ) (z : ℤ) → z ≡ negsuc (suc a * one - 1) → round z (pos one) ≡ negsuc a
whole_neg a z e =
    let twice : pos 2 *ℤ z +ℤ pos one ≡ negsuc ((2 * a + 1) * one - 1) = omega (arith, ints, e) in
    ap (λ y. int_div_euclid y (pos (2 * one))) twice ∙ ap negsuc (omega arith)

-- a sine or cosine of 0, of one and of minus one
pub scaled_none : (r : ℤ) → scaled r (pos 0) ≡ pos 0
scaled_none (pos a) = whole_pos 0 (pos a *ℤ pos 0) (omega (arith, ints))
scaled_none (negsuc a) = whole_pos 0 (negsuc a *ℤ pos 0) (omega (arith, ints))

pub scaled_whole : (r : ℤ) → scaled r (pos one) ≡ r
scaled_whole (pos a) = whole_pos a (pos a *ℤ pos one) (omega (arith, ints))
scaled_whole (negsuc a) = whole_neg a (negsuc a *ℤ pos one) (omega (arith, ints))

pub scaled_back : (r : ℤ) → scaled r (neg_ℤ (pos one)) ≡ neg_ℤ r
scaled_back (pos zero) = refl
scaled_back (pos (suc a)) = whole_neg a (pos (suc a) *ℤ neg_ℤ (pos one)) (omega (arith, ints))
scaled_back (negsuc a) = whole_pos (suc a) (negsuc a *ℤ neg_ℤ (pos one)) (omega (arith, ints))

-- the point lies where the quarter turn points
pub rotated_north : (angle : ℕ) (r : ℤ) → angle ≡ 0 → rotated angle r ≡ (pos 0, r)
rotated_north angle r at = let turn = ap sine_cosine at ∙ north_is in λ i. ((ap (λ (t : ℤ × ℤ). scaled r t.0) turn ∙ scaled_none r) i, (ap (λ (t : ℤ × ℤ). scaled r t.1) turn ∙ scaled_whole r) i)

pub rotated_east : (angle : ℕ) (r : ℤ) → angle ≡ 16384 → rotated angle r ≡ (r, pos 0)
rotated_east angle r at = let turn = ap sine_cosine at ∙ east_is in λ i. ((ap (λ (t : ℤ × ℤ). scaled r t.0) turn ∙ scaled_whole r) i, (ap (λ (t : ℤ × ℤ). scaled r t.1) turn ∙ scaled_none r) i)

pub rotated_south : (angle : ℕ) (r : ℤ) → angle ≡ 32768 → rotated angle r ≡ (pos 0, neg_ℤ r)
rotated_south angle r at = let turn = ap sine_cosine at ∙ south_is in λ i. ((ap (λ (t : ℤ × ℤ). scaled r t.0) turn ∙ scaled_none r) i, (ap (λ (t : ℤ × ℤ). scaled r t.1) turn ∙ scaled_back r) i)

pub rotated_west : (angle : ℕ) (r : ℤ) → angle ≡ 49152 → rotated angle r ≡ (neg_ℤ r, pos 0)
rotated_west angle r at = let turn = ap sine_cosine at ∙ west_is in λ i. ((ap (λ (t : ℤ × ℤ). scaled r t.0) turn ∙ scaled_back r) i, (ap (λ (t : ℤ × ℤ). scaled r t.1) turn ∙ scaled_none r) i)
