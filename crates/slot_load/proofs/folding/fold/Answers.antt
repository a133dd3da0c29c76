use Rattle.std.proofs.Common.{sym, subst}
use Rattle.slot_step.specs.Calls.{AreFromBefore}
use Rattle.slot_step.proofs.Counted.{none_before}
use Rattle.slot_load.proofs.folding.fold.Goals as goal

pub loop-turn-init : goal.loop-turn-init
loop-turn-init g c = subst (AreFromBefore 100) (sym c.empty-table.ensures) (none_before 100)
