use Rattle.std.proofs.Common.{◌∙◌, sym, subst}
use Rattle.slot_step.specs.Calls.{AreFromBefore}
use Rattle.slot_step.proofs.Counted.{none_before}
use Rattle.track_parts.proofs.tests.numbers_last.Goals as goal

pub new-window-requires : goal.new-window-requires
new-window-requires g c = record { before = subst (AreFromBefore 72000) (sym (c.of-start.ensures.table ∙ c.empty.ensures)) (none_before 72000) }
