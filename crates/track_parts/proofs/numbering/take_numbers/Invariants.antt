use Rattle.std.proofs.Common.{◌≡◌, ◌++◌, take, drop}
use Rattle.track_parts.proofs.Renumbered.{taken}
use Rattle.track_parts.proofs.numbering.take_numbers.Given as goal

abbrev pub invariant-loop-track : goal.invariant-loop-track
invariant-loop-track l = taken l.fn.before l.fn.tracks ≡ take l.track-index l.tracks ++ taken l.rest (drop l.track-index l.tracks)
