-- A log begins before each slot.
use Rattle.std.proofs.Common.{◌≡◌, sym, subst, ℕ}
use Rattle.std.specs.List.Sorted.{IsStrictlySortedBy}
use Rattle.admission_log.specs.declared.settings.Settings.{Settings}
use Rattle.tracker_fold.specs.declared.state.TrackerState.{TrackerState}
use Rattle.tracker_fold.specs.Starts.{start}
use Rattle.tracker_fold.specs.Steps.{IsBefore}

pub start_before : (settings : Settings) (s : TrackerState) (n : ℕ) → s ≡ start settings → IsBefore s n
unfolding IsStrictlySortedBy
start_before settings s n e = subst (λ s. IsBefore s n) (sym e) (record { rising = tt; each = tt })
