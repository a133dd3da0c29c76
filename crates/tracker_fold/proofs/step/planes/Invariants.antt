use Rattle.std.specs.Prelude.{◌≡◌, take}
use Rattle.tracker_fold.specs.Steps.{planes}
use Rattle.tracker_fold.proofs.step.planes.Given as goal

abbrev pub invariant-loop-entry : goal.invariant-loop-entry
invariant-loop-entry l = l.plots.items ≡ planes l.radars (take l.entry-index l.entries)
