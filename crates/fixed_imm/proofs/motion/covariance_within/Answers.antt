use Rattle.std.proofs.Common.{◌∙◌, ◌*◌, ◌≤◌, ap, sym, rules}
use Rattle.std.specs.Prelude.{FitsSigned, unsigned_abs}
use Rattle.std.specs.Int.{w64}
use Rattle.std.proofs.Math.Nat.{le_trans}
use Rattle.std.proofs.lemmas.Int.{to_z-of_z}
use Rattle.std.proofs.lemmas.Nat.{mul-le}
use Rattle.fixed_imm.proofs.Covariances.{root_from_square, clamp_inside}
use Rattle.fixed_imm.proofs.motion.covariance_within.Goals as goal

pub returns-then-size-unsigned_abs-clause-value : goal.returns-then-size-unsigned_abs-clause-value
returns-then-size-unsigned_abs-clause-value c =
    let x = to_z-of_z w64 c.args.x c.ranges.x in
    let size = c.unsigned_abs-size.ensures.value ∙ ap unsigned_abs x in
    let a = c.unsigned_abs.ensures.value ∙ ap unsigned_abs (to_z-of_z w64 c.args.a c.ranges.a) in
    let b = c.unsigned_abs-2.ensures.value ∙ ap unsigned_abs (to_z-of_z w64 c.args.b c.ranges.b) in
    let square : unsigned_abs c.args.x * unsigned_abs c.args.x ≤ unsigned_abs c.args.a * unsigned_abs c.args.b = rw (sym size, sym a, sym b) c.if-size-unsigned_abs.true in
    x ∙ clamp_inside c.args.x _ (root_from_square c.args.x c.args.a c.args.b c.requires.first c.requires.second square)

pub returns-clause-square : goal.returns-clause-square
returns-clause-square c =
    let result_fits : FitsSigned w64 c.nearest_within.result = search rules in
    let limit_fits : FitsSigned w64 c.covariance_bound.result = search rules in
    let a_fits : FitsSigned w64 c.args.a = c.ranges.a in
    let b_fits : FitsSigned w64 c.args.b = c.ranges.b in
    let size = simp to_z-of_z at c.nearest_within.ensures.size in
    let square = simp to_z-of_z at c.covariance_bound.ensures.square in
    rw (to_z-of_z w64 c.nearest_within.result result_fits) (le_trans (mul-le _ _ _ _ size size) square)
