use Rattle.std.proofs.Common.{length, ◌-◌}
use Rattle.slot_step.proofs.Cutting.{AreCut}
use Rattle.slot_step.proofs.batches.batches_of.Given as goal

abbrev pub invariant-loop-from : goal.invariant-loop-from
invariant-loop-from l = AreCut l.plots l.batches.items l.from

abbrev pub decreases-loop-from : goal.decreases-loop-from
decreases-loop-from l = length l.plots - l.from
