use Rattle.std.proofs.Common.{◌≡◌, length}
use Rattle.assignment_dual.specs.Search.{NoneSeen}
use Rattle.assignment_dual.proofs.Prefixes.{Choosing}
use Rattle.assignment_dual.proofs.tie.first_pairing.Given as goal

abbrev pub invariant-loop-p : goal.invariant-loop-p
invariant-loop-p l = Choosing l.graph (length l.fn.prices) l.fn.gone l.prices l.mates l.gone l.p l.pairing.items × (length l.search.seen.items ≡ length l.fn.prices) × NoneSeen l.search.seen.items
