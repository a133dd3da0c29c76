use Rattle.std.proofs.Common.{◌+◌}
use Rattle.slot_step.specs.Calls.{AreFromBefore}
use Rattle.part_load.proofs.parting.table_before.Given as goal

abbrev pub invariant-loop-turn : goal.invariant-loop-turn
invariant-loop-turn g l = AreFromBefore (72000 + l.turn) l.table
