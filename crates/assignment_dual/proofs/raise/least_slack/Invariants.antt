use Rattle.assignment_dual.proofs.Shifts.{RoomyBelow}
use Rattle.assignment_dual.proofs.raise.least_slack.Given as goal

abbrev pub invariant-loop-i : goal.invariant-loop-i
invariant-loop-i l = RoomyBelow l.graph l.prices l.mates l.seen l.tree l.i l.least
