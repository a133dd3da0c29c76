use Rattle.std.proofs.Common.{◌≡◌, ◌<◌, ◌+◌, length}
use Rattle.std.specs.List.{AllByRecursion}
use Rattle.cluster_pool.specs.Lamps.{count}
use Rattle.cluster_pool.proofs.lamps.numbers_of.Given as goal

abbrev pub invariant-loop-item : goal.invariant-loop-item
invariant-loop-item l = (length l.numbers.items ≡ count l.lamps + l.item-index) × AllByRecursion (λ k. k < l.wish) l.numbers.items
