use Rattle.std.proofs.Common.{◌+◌, ◌-◌, length}
use Rattle.edition_form.proofs.Stepping.{ArePackedSoFar}
use Rattle.edition_form.proofs.datagrams.track_blocks.Given as goal

abbrev pub invariant-loop-told : goal.invariant-loop-told
invariant-loop-told l = ArePackedSoFar l.stamp l.old l.now l.told l.blocks.packing

abbrev pub decreases-loop-told : goal.decreases-loop-told
decreases-loop-told l = length l.old + length l.now - (l.told.old_count + l.told.now_count)
