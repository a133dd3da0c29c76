use Rattle.std.proofs.Common.{◌≡◌, length}
use Rattle.assignment_dual.specs.Search.{NoneSeen}
use Rattle.assignment_dual.proofs.Candidates.{Trying}
use Rattle.assignment_dual.proofs.tie.fix_plot.Given as goal

abbrev pub invariant-loop-k : goal.invariant-loop-k
invariant-loop-k l = Trying l.graph (length l.fn.prices) l.fn.gone l.prices l.mates l.gone l.whole l.tight l.p l.k-index × (length l.search.seen.items ≡ length l.fn.prices) × NoneSeen l.search.seen.items
