use Rattle.std.proofs.Common.{sym, subst}
use Rattle.slot_step.specs.Calls.{AreFromBefore}
use Rattle.slot_step.proofs.Counted.{none_before}
use Rattle.track_parts.proofs.tests.numbers_each.Goals as goal

pub loop-slot-init : goal.loop-slot-init
loop-slot-init g c = subst (AreFromBefore 72000) (sym c.empty-table.ensures) (none_before 72000)
