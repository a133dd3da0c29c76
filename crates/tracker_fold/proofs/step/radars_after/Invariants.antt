use Rattle.std.specs.Prelude.{◌≡◌, fold, take}
use Rattle.tracker_fold.specs.Steps.{changed}
use Rattle.tracker_fold.proofs.step.radars_after.Given as goal

abbrev pub invariant-loop-entry : goal.invariant-loop-entry
invariant-loop-entry l = l.radars.items ≡ fold changed l.before (take l.entry-index l.entries)
