use Rattle.std.specs.Prelude.{◌≢◌, take}
use Rattle.std.specs.List.{AllByRecursion}
use Rattle.track_parts.specs.Tracking.{key_of_plot}
use Rattle.track_parts.proofs.tests.is_new.Given as goal

abbrev pub invariant-loop-other : goal.invariant-loop-other
invariant-loop-other l = AllByRecursion (λ p. key_of_plot p ≢ key_of_plot l.plot) (take l.other-index l.plots)
