use Rattle.std.proofs.Common.{◌≡◌, ◌∙◌, ap, arith, map, None}
use Rattle.track_life.specs.Numbers.{with_number}
use Rattle.track_parts.proofs.Renumbered.{taken, taken_alone, taken_is, all_taken}
use Rattle.track_parts.proofs.numbering.take_numbers.Goals as goal

-- after the last track
all_are : (c : goal.After-loop-track) → c.loop-track.tracks ≡ taken c.args.before.now c.args.tracks.now
all_are c = all_taken c.loop-track.rest.now _ c.loop-track.tracks c.loop-track.track-index (omega (arith, c.loop-track.auto.tracks, c.loop-track-test.false)) c.loop-track.invariant

pub returns-clause-numbers : goal.returns-clause-numbers
returns-clause-numbers c = λ life r s. all_are c ∙ taken_is life c.args.before.now c.args.tracks.now r s

pub returns-clause-alone : goal.returns-clause-alone
returns-clause-alone c = ap (map (with_number None)) (all_are c) ∙ taken_alone c.args.before.now c.args.tracks.now
