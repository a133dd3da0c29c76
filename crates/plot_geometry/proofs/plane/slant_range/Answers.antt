use Rattle.std.proofs.Common.{◌≡◌, ◌∙◌, ap, sym, subst, arith, lit<, lit≤, ℕ, ◌*◌, ◌≤◌, ◌^◌, ℤ, pos, ◌+ℤ◌, ◌-ℤ◌, ◌*ℤ◌, ◌<ℤ◌, T}
use Rattle.std.specs.Prelude.{unsigned_abs, FitsSigned}
use Rattle.std.specs.Int.{w16, w128, int_max, cast_signed, cast_unsigned}
use Rattle.std.proofs.lemmas.Int.{ints}
use Rattle.trk_base.specs.Numbers.{round}
use Rattle.trk_base.proofs.Sizes.{Is, is_pos, is_cast, times, plus, minus, rounded_share, size}
use Rattle.plot_geometry.specs.Plane.{slant_range, unbiased}
use Rattle.plot_geometry.proofs.Terms.{given, given16, is_max, max_zero, max_non_neg}
use lib.Signed.{non_neg}
use Rattle.plot_geometry.proofs.plane.slant_range.Goals as goal

-- the calls, in their order
abbrev bits : ℤ → ℤ
bits z = cast_signed w128 (cast_unsigned w128 z)

range_is : (rho : ℕ) (bias gain : ℤ) {r b g quotient greatest : ℤ} → rho ≤ 65535 → FitsSigned w16 bias → FitsSigned w16 gain → unsigned_abs bias ≤ 1000 → unsigned_abs gain ≤ 10000
    → r ≡ pos rho → b ≡ cast_signed w16 (cast_unsigned w16 bias) → g ≡ cast_signed w16 (cast_unsigned w16 gain)
    → quotient ≡ round (bits (pos 100000 *ℤ bits (bits (pos 463 *ℤ bits r) -ℤ bits (pos 926 *ℤ bits b)))) (bits (pos 100000 +ℤ bits g)) → greatest ≡ int_max (bits quotient) (pos 0)
    → Is (bits greatest) (int_max (unbiased rho bias gain) (pos 0)) (2 ^ 26)
range_is rho bias gain in16 fits_bias fits_gain small_bias small_gain r b g quotient greatest =
    let measured = minus (times (is_pos {n = 463}) (given 65535 r in16 tt) tt) (times (is_pos {n = 926}) (given16 bias b fits_bias) tt) tt in
    let divisor = plus (is_pos {n = 100000}) (given16 gain g fits_gain) tt in
    let some : pos 0 <ℤ (pos 100000 +ℤ gain) = omega (arith, ints) in
    let share : unsigned_abs (pos 100000 *ℤ (pos 463 *ℤ pos rho -ℤ pos 926 *ℤ bias)) ≤ 2 ^ 26 * unsigned_abs (pos 100000 +ℤ gain) = omega (arith, ints) in
    is_cast (is_max greatest (rounded_share (2 ^ 26) quotient (times (is_pos {n = 100000}) measured tt) divisor some share tt)) (lit< tt)

pub overflow_cast-result : goal.overflow_cast-result
overflow_cast-result c =
    let top = range_is c.args.rho c.args.bias c.args.gain (omega (arith, c.ranges.rho)) c.ranges.bias c.ranges.gain c.requires.bias c.requires.gain c.from.ensures c.from-2.ensures c.from-3.ensures c.round_div-range.ensures c.max.ensures.value in
    let small : unsigned_abs (bits c.max.result) ≤ 2 ^ 26 = size top (lit≤ tt) in
    (subst (λ z. T (non_neg z)) (sym top.same) (max_non_neg (unbiased c.args.rho c.args.bias c.args.gain)), record { fits = omega (arith, small) })

pub returns-clause-value : goal.returns-clause-value
unfolding slant_range
returns-clause-value c =
    let top = range_is c.args.rho c.args.bias c.args.gain (omega (arith, c.ranges.rho)) c.ranges.bias c.ranges.gain c.requires.bias c.requires.gain c.from.ensures c.from-2.ensures c.from-3.ensures c.round_div-range.ensures c.max.ensures.value in
    ap unsigned_abs top.same ∙ max_zero (unbiased c.args.rho c.args.bias c.args.gain)

pub returns-clause-bound : goal.returns-clause-bound
returns-clause-bound c =
    size (range_is c.args.rho c.args.bias c.args.gain (omega (arith, c.ranges.rho)) c.ranges.bias c.ranges.gain c.requires.bias c.requires.gain c.from.ensures c.from-2.ensures c.from-3.ensures c.round_div-range.ensures c.max.ensures.value) (lit≤ tt)
