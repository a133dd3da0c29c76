use Rattle.std.proofs.Common.{◌≡◌, take}
use Rattle.admission_log.specs.Biases.{changes_of}
use Rattle.admission_log.proofs.plots.changes_of.Given as goal

abbrev pub invariant-loop-event : goal.invariant-loop-event
invariant-loop-event l = (l.index ≡ l.event-index) × (l.changes.items ≡ changes_of (take l.event-index l.events))
