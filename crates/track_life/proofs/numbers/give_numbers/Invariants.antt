use Rattle.std.proofs.Common.{◌≡◌, ℕ, List, ◌++◌, take, drop}
use Rattle.track_life.specs.Numbers.{held, is_among, given}
use Rattle.track_life.specs.HeldNumbers.{LeapOver}
use Rattle.track_life.proofs.numbers.give_numbers.Given as goal

abbrev pub invariant-loop-track : goal.invariant-loop-track
invariant-loop-track l = record {
  before : List ℕ;
  over : LeapOver (is_among before) l.held;
  whole : given (held l.fn.tracks) l.fn.tracks ≡ take l.track-index l.tracks ++ given before (drop l.track-index l.tracks);
}
