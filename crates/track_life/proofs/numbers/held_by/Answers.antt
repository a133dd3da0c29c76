use Rattle.std.proofs.Common.{subst}
use Rattle.std.proofs.lemmas.List.{take_all}
use Rattle.track_life.specs.Numbers.{held, is_among}
use Rattle.track_life.specs.HeldNumbers.{LeapOver}
use Rattle.track_life.proofs.Giving.{over_more}
use Rattle.track_life.proofs.numbers.held_by.Goals as goal

pub loop-track-preserved : goal.loop-track-preserved
loop-track-preserved c = over_more c.args.tracks.now c.loop-track.track-index c.track-item.result _ c.loop-track-test.true c.track-item.is (c.hold_number.ensures _ c.loop-track.invariant)

pub returns : goal.returns
returns c = subst (λ ts. LeapOver (is_among (held ts)) c.loop-track.numbers) (take_all _ c.args.tracks.now c.loop-track-test.false) c.loop-track.invariant
