use Rattle.std.proofs.Common.{◌+◌, ◌-◌, length}
use Rattle.slot_step.proofs.Looking.{HasLooked}
use Rattle.slot_step.proofs.reaching.reaches.Given as goal

abbrev pub invariant-loop-seen : goal.invariant-loop-seen
invariant-loop-seen l = HasLooked l.life l.slot l.table l.batches l.others l.seen l.ran l.tracks.items l.certs.items

abbrev pub decreases-loop-seen : goal.decreases-loop-seen
decreases-loop-seen l = (length l.others - l.seen) + (length l.batches - l.ran)
