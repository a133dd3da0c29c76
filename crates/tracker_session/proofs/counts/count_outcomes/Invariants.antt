use Rattle.std.proofs.Common.{◌≡◌, take}
use Rattle.tracker_session.specs.Counting.{with_told}
use Rattle.tracker_session.proofs.counts.count_outcomes.Given as goal

abbrev pub invariant-loop-outcome : goal.invariant-loop-outcome
invariant-loop-outcome l = l.counts ≡ with_told (take l.outcome-index l.outcomes) l.fn.counts
