use Rattle.std.proofs.Common.{◌≤◌, length}
use Rattle.assignment_dual.specs.Search.{vertex_at}
use Rattle.assignment_dual.specs.Rising.{AreRaised}
use Rattle.assignment_dual.proofs.raise.lower_vertices.Given as goal

abbrev pub invariant-loop-i : goal.invariant-loop-i
invariant-loop-i l = (1 ≤ l.i) × (l.i ≤ length l.tree) × AreRaised l.prices l.fn.prices (vertex_at l.tree) 1 l.i l.by
