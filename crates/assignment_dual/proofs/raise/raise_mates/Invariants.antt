use Rattle.std.proofs.Common.{◌≤◌, length}
use Rattle.assignment_dual.specs.Search.{mate_at}
use Rattle.assignment_dual.specs.Rising.{AreRaised}
use Rattle.assignment_dual.proofs.raise.raise_mates.Given as goal

abbrev pub invariant-loop-i : goal.invariant-loop-i
invariant-loop-i l = (l.i ≤ length l.tree) × AreRaised l.fn.prices l.prices (mate_at l.mates l.tree) 0 l.i l.by
