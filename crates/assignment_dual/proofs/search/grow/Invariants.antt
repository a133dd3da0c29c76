use Rattle.std.proofs.Common.{◌+◌, ◌-◌, length}
use Rattle.assignment_dual.specs.Search.{unseen}
use Rattle.assignment_dual.proofs.Trees.{Growing}
use Rattle.assignment_dual.proofs.search.grow.Given as goal

abbrev pub invariant-nodes : goal.invariant-nodes
invariant-nodes l = Growing l.graph l.prices l.mates l.fn.search.seen.items l.search.seen.items l.fn.search.tree.items l.search.tree.items l.next

abbrev pub decreases-nodes : goal.decreases-nodes
decreases-nodes l = length l.search.tree.items + unseen l.search.seen.items - l.next
