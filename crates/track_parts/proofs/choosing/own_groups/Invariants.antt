use Rattle.std.proofs.Common.{◌≡◌, length}
use Rattle.track_parts.proofs.choosing.own_groups.Given as goal

abbrev pub invariant-loop-item : goal.invariant-loop-item
invariant-loop-item l = length l.groups.items ≡ l.item
