use Rattle.std.specs.Prelude.{◌≢◌, take}
use Rattle.std.specs.List.{AllByRecursion}
use Rattle.tracker_fold.specs.Keys.{key_in}
use Rattle.tracker_fold.proofs.tests.is_new.Given as goal

abbrev pub invariant-loop-other : goal.invariant-loop-other
invariant-loop-other l = AllByRecursion (λ e. key_in e ≢ key_in l.entry) (take l.other-index l.entries)
