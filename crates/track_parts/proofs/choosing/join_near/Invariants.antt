use Rattle.std.proofs.Common.{◌≤◌}
use Rattle.track_parts.proofs.choosing.join_near.Given as goal

abbrev pub invariant-loop-i : goal.invariant-loop-i
invariant-loop-i l = l.from ≤ l.i
