use Rattle.std.proofs.Common.{◌≡◌, ◌∙◌, ◌*◌, ◌/◌, ◌≤◌, max, ℤ, pos, negsuc, ◌*ℤ◌, ◌≤ℤ◌, ◌<ℤ◌, T, Fits, arith, rules, subst, sym}
use Rattle.std.specs.Prelude.{unsigned_abs}
use Rattle.std.specs.Int.{int_min, w64, w128, cast_signed, cast_unsigned}
use lib.Signed.{non_neg}
use Rattle.std.proofs.lemmas.Int.{ints, clamps}
use Rattle.trk_base.specs.Numbers.{round, isqrt, exp2_lin}
use Rattle.trk_base.proofs.Sizes.{through, times, rounded_by, is_pos}
use Rattle.fixed_imm.specs.Correction.{likelihood}
use Rattle.fixed_imm.proofs.Narrow.{var64, times64, widened}
use Rattle.fixed_imm.proofs.Fields.{by_of, by_read, positive_by}
use Rattle.fixed_imm.proofs.Squares.{scaled_square, round_not_negative}
use Rattle.fixed_imm.proofs.correcting.likelihood.Goals as goal
use Rattle.fixed_imm.proofs.correcting.likelihood.Goals.{After-min-exponent}

in_range : (y : ℤ) → pos 0 ≤ℤ y → y ≤ℤ pos 2031616 → T (non_neg y) × Fits w64 (unsigned_abs y)
in_range (pos n) low high = let small : n ≤ 2031616 = omega (arith, ints) in (tt, search rules)
in_range (negsuc n) low high = absurd (omega (arith, ints))

small : (x : ℤ) → pos 0 ≤ℤ x → T (non_neg (int_min x (pos 2031616))) × Fits w64 (unsigned_abs (int_min x (pos 2031616)))
small x h = in_range (int_min x (pos 2031616)) (omega (arith, ints, clamps)) (omega (arith, ints, clamps))

not_negative : (e s : ℤ) → pos 0 <ℤ s → pos 0 ≤ℤ round (pos 47274 *ℤ e *ℤ e) s
not_negative e s some = subst (λ z. pos 0 ≤ℤ round z s) (sym (scaled_square 47274 e)) (round_not_negative (47274 * unsigned_abs e * unsigned_abs e) s some)

distance_of : (c : After-min-exponent) → cast_signed w128 (cast_unsigned w128 c.round.result) ≡ round (pos 47274 *ℤ c.args.e *ℤ c.args.e) c.args.s.now.by
distance_of c =
    let e = var64 c.args.e _ c.requires.innovation tt in
    (rounded_by c.round.ensures (times (widened (times64 (is_pos {n = 47274}) e tt) tt) (widened e tt) tt) (by_of c.args.s.now.low c.args.s.now.high) (positive_by c.args.s.now.low) tt).same

exponent_of : (c : After-min-exponent) → cast_signed w128 (cast_unsigned w128 c.min-exponent.result) ≡ int_min (round (pos 47274 *ℤ c.args.e *ℤ c.args.e) c.args.s.now.by) (pos 2031616)
exponent_of c = through c.min-exponent.type_inv ∙ c.min-exponent.ensures.value ∙ (λ j. int_min (distance_of c j) (pos 2031616))

pub overflow_cast-exponent : goal.overflow_cast-exponent
overflow_cast-exponent c = subst (λ z. T (non_neg z) × Fits w64 (unsigned_abs z)) (sym (exponent_of c)) (small _ (not_negative c.args.e c.args.s.now.by (positive_by c.args.s.now.low)))

pub returns-clause-value : goal.returns-clause-value
unfolding likelihood
returns-clause-value c =
    let power = c.exp2_lin.ensures.value ∙ (λ j. exp2_lin (unsigned_abs (exponent_of (goal.at.returns-clause-value c).After-min-exponent j))) in
    let root = c.isqrt.ensures.value ∙ (λ j. isqrt (unsigned_abs ((by_read c.args.s.now.low c.args.s.now.high).same j))) in
    let divisor = c.max.ensures ∙ (λ j. max (root j) 1) in
    c.quotient.ensures ∙ (λ j. power j * 4294967296 / divisor j)
