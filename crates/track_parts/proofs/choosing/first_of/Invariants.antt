use Rattle.std.proofs.Common.{◌≤◌}
use Rattle.track_parts.proofs.choosing.first_of.Given as goal

abbrev pub invariant-way : goal.invariant-way
invariant-way l = l.at ≤ l.item

abbrev pub decreases-way : goal.decreases-way
decreases-way l = l.at
