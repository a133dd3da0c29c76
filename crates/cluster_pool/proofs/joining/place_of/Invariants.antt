use Rattle.std.proofs.Common.{take}
use Rattle.cluster_pool.specs.Joins.{LackNumber}
use Rattle.cluster_pool.proofs.joining.place_of.Given as goal

abbrev pub invariant-loop-place : goal.invariant-loop-place
invariant-loop-place g l = LackNumber l.number (take l.place l.done)
