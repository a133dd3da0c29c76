use Rattle.std.proofs.Common.{◌≡◌, ◌-◌, get_or}
use Rattle.assignment_dual.proofs.Augments.{Augments}
use Rattle.assignment_dual.proofs.augmenting.augment.Given as goal

abbrev pub invariant-rounds : goal.invariant-rounds
invariant-rounds l = (l.mates ≡ l.fn.mates) × Augments l.graph l.fn.prices l.fn.mates l.prices l.search.seen.items l.search.tree.items l.x

abbrev pub decreases-rounds : goal.decreases-rounds
decreases-rounds l = 4097 - get_or l.prices l.x 0
