use Rattle.std.proofs.Common.{◌≡◌, ◌<◌, length}
use Rattle.std.specs.List.{AllByRecursion}
use Rattle.track_parts.proofs.choosing.numbers_of.Given as goal

abbrev pub invariant-loop-item : goal.invariant-loop-item
invariant-loop-item l = (length l.numbers.items ≡ l.item) × AllByRecursion (λ k. k < l.wish) l.numbers.items
