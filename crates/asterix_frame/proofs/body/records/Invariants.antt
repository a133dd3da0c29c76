use Rattle.std.proofs.Common.{◌-◌, length}
use Rattle.asterix_frame.proofs.Bodies.{SoFar}
use Rattle.asterix_frame.proofs.body.records.Given as goal

abbrev pub invariant-loop-from : goal.invariant-loop-from
invariant-loop-from l = SoFar l.uap l.block.body.now l.from l.found.items

abbrev pub decreases-loop-from : goal.decreases-loop-from
decreases-loop-from l = length l.block.body.now - l.from
