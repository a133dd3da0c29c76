use Rattle.std.proofs.Common.{◌+◌, take}
use Rattle.late_window.proofs.Inserting.{IsLeastOf}
use Rattle.late_window.proofs.window.least_slot.Given as goal

abbrev pub invariant-loop-item : goal.invariant-loop-item
invariant-loop-item g l = IsLeastOf g.F.Fold.slot_of (take (l.item-index + 1) l.items) l.least
