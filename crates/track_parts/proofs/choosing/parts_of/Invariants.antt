use Rattle.std.proofs.Common.{◌≡◌, ◌<◌, length}
use Rattle.std.specs.List.{All}
use Rattle.track_parts.proofs.choosing.parts_of.Given as goal

abbrev pub invariant-loop-size : goal.invariant-loop-size
invariant-loop-size l = (length l.loads.items ≡ l.wish) × (length l.parts.items ≡ length l.lower) × All (λ k. k < l.wish) l.parts.items
