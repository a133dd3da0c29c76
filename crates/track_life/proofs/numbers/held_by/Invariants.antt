use Rattle.std.proofs.Common.{take}
use Rattle.track_life.specs.Numbers.{held, is_among}
use Rattle.track_life.specs.HeldNumbers.{LeapOver}
use Rattle.track_life.proofs.numbers.held_by.Given as goal

abbrev pub invariant-loop-track : goal.invariant-loop-track
invariant-loop-track l = LeapOver (is_among (held (take l.track-index l.tracks))) l.numbers
