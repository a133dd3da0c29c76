use Rattle.std.proofs.Common.{◌≡◌, take}
use Rattle.std.specs.Prelude.{fold}
use Rattle.tracker_engine.specs.Hearing.{heard}
use Rattle.tracker_engine.proofs.absorbing.hear_all.Given as goal

abbrev pub invariant-loop-outcome : goal.invariant-loop-outcome
invariant-loop-outcome l = l.services ≡ fold (heard l.last) l.initial.services (take l.outcome-index l.outcomes)
