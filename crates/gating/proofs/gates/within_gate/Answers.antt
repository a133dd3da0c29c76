use Rattle.std.proofs.Common.{arith}
use Rattle.gating.proofs.Costs.{above, within}
use Rattle.gating.proofs.gates.within_gate.Goals as goal

pub returns-then-cost-from : goal.returns-then-cost-from
returns-then-cost-from c = above c.args.x c.args.y (omega (arith, c.if-cost-from.true, c.from.ensures))

pub returns : goal.returns
returns c = within c.args.x c.args.y (omega (arith, c.if-cost-from.false, c.from.ensures))
