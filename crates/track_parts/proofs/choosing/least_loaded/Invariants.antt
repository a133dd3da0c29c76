use Rattle.std.proofs.Common.{◌<◌}
use Rattle.track_parts.proofs.choosing.least_loaded.Given as goal

abbrev pub invariant-loop-part : goal.invariant-loop-part
invariant-loop-part l = l.least < l.wish
