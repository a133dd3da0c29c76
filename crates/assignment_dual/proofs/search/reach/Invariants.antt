use Rattle.std.proofs.Common.{length}
use Rattle.assignment_dual.specs.Search.{vertex_at}
use Rattle.assignment_dual.proofs.Paths.{Turning}
use Rattle.assignment_dual.proofs.search.reach.Given as goal

abbrev pub invariant-path : goal.invariant-path
invariant-path l = Turning l.graph (length l.prices) l.prices l.fn.mates l.mates l.search.tree.items (vertex_at l.fn.search.tree.items 0) l.at

abbrev pub decreases-path : goal.decreases-path
decreases-path l = l.at
