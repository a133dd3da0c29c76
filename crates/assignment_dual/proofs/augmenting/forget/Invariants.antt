use Rattle.assignment_dual.proofs.Augments.{ForgottenBelow}
use Rattle.assignment_dual.proofs.augmenting.forget.Given as goal

abbrev pub invariant-loop-node : goal.invariant-loop-node
invariant-loop-node l = ForgottenBelow l.seen l.tree l.node-index
