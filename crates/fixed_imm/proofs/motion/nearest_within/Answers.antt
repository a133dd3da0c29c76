use Rattle.std.proofs.Common.{◌≡◌, ◌∙◌, ℤ, pos, neg_ℤ, ◌-ℤ◌, arith, rules}
use Rattle.std.specs.Prelude.{FitsSigned}
use Rattle.std.specs.Int.{w64, int_max, int_min}
use Rattle.std.proofs.lemmas.Int.{ints, to_z-of_z}
use Rattle.fixed_imm.proofs.motion.nearest_within.Goals as goal

zero_less : (z : ℤ) → pos 0 -ℤ z ≡ neg_ℤ z
zero_less z = omega (arith, ints)

pub returns-clause-value : goal.returns-clause-value
returns-clause-value c =
    let x_fits : FitsSigned w64 c.args.x = c.ranges.x in
    let bound_fits : FitsSigned w64 c.args.bound = c.ranges.bound in
    let less_fits : FitsSigned w64 (pos 0 -ℤ c.args.bound) = search rules in
    let out_fits : FitsSigned w64 c.clamp.result = search rules in
    let e = simp to_z-of_z at c.clamp.ensures.value in
    simp to_z-of_z (e ∙ (λ i. int_max (zero_less c.args.bound i) (int_min c.args.x c.args.bound)))
