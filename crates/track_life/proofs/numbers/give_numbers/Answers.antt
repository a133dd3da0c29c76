use Rattle.std.proofs.Common.{sym, arith}
use Rattle.track_life.specs.Numbers.{assigned}
use Rattle.track_life.proofs.Giving.{all_taken, none_assigned}
use Rattle.track_life.proofs.numbers.give_numbers.Goals as goal

pub returns-then-not-some_waits-clause-given : goal.returns-then-not-some_waits-clause-given
returns-then-not-some_waits-clause-given c = sym (none_assigned c.args.tracks.now (sym c.if-not-some_waits.ensures))

pub returns-clause-given : goal.returns-clause-given
unfolding assigned
returns-clause-given c = all_taken c.loop-track.invariant.before _ c.loop-track.tracks c.loop-track.track-index (omega (arith, c.loop-track.auto.tracks, c.loop-track-test.false)) c.loop-track.invariant.whole
