use Rattle.std.proofs.Common.{◌≡◌, length}
use Rattle.assignment_dual.specs.Search.{NoneSeen}
use Rattle.assignment_dual.proofs.Adding.{Adding}
use Rattle.assignment_dual.proofs.augmenting.augment_all.Given as goal

abbrev pub invariant-loop-p : goal.invariant-loop-p
invariant-loop-p l = Adding l.graph (length l.fn.prices) l.prices l.mates l.p × (length l.search.seen.items ≡ length l.fn.prices) × NoneSeen l.search.seen.items
