use Rattle.std.proofs.Common.{ℕ, ◌<◌}
use Rattle.slot_step.specs.Calls.{GoesOn}
use Rattle.slot_step.proofs.batches.are_slot_plots.Given as goal

abbrev pub invariant-loop-index : goal.invariant-loop-index
invariant-loop-index l = (i : ℕ) → i < l.index → GoesOn l.slot l.plots i
