use Rattle.std.proofs.Common.{sym, subst}
use Rattle.slot_step.specs.Calls.{AreFromBefore}
use Rattle.slot_step.proofs.Counted.{none_before}
use Rattle.part_load.proofs.parting.table_before.Goals as goal

pub loop-turn-init : goal.loop-turn-init
loop-turn-init g c = subst (AreFromBefore 72000) (sym c.empty-table.ensures) (none_before 72000)
