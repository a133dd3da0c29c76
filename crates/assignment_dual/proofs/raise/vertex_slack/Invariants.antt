use Rattle.assignment_dual.proofs.Shifts.{Roomy}
use Rattle.assignment_dual.proofs.raise.vertex_slack.Given as goal

abbrev pub invariant-loop-k : goal.invariant-loop-k
invariant-loop-k l = Roomy l.graph l.prices l.seen l.x l.k l.room
