use Rattle.assignment_dual.proofs.Trees.{Sweeping}
use Rattle.assignment_dual.proofs.search.sweep.Given as goal

abbrev pub invariant-loop-k : goal.invariant-loop-k
invariant-loop-k l = Sweeping l.graph l.prices l.mates l.fn.search.seen.items l.search.seen.items l.fn.search.tree.items l.search.tree.items l.x l.k
