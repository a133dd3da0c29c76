use Rattle.std.proofs.Common.{◌∙◌, ap, arith}
use Rattle.std.specs.Prelude.{unsigned_abs}
use Rattle.std.specs.Int.{w64}
use Rattle.std.proofs.lemmas.Int.{to_z-of_z}
use Rattle.gating.proofs.Costs.{axis_cost_is, axis_cost_size}
use Rattle.gating.proofs.gates.axis_cost.Goals as goal

pub returns-clause-value : goal.returns-clause-value
returns-clause-value c = axis_cost_is c.args.e c.unsigned_abs-size.result c.args.s (c.unsigned_abs-size.ensures.value ∙ ap unsigned_abs (to_z-of_z w64 c.args.e c.ranges.e))

pub returns-clause-size : goal.returns-clause-size
returns-clause-size c = omega (arith, returns-clause-value c, axis_cost_size c.args.e c.args.s c.requires.reach c.requires.some)
