use Rattle.std.proofs.Common.{◌+◌}
use Rattle.slot_step.specs.Calls.{AreFromBefore}
use Rattle.slot_load.proofs.folding.fold.Given as goal

abbrev pub invariant-loop-turn : goal.invariant-loop-turn
invariant-loop-turn g l = AreFromBefore (100 + l.turn) l.table
