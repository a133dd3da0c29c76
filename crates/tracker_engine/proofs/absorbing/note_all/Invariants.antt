use Rattle.std.proofs.Common.{◌≡◌, take}
use Rattle.std.specs.Prelude.{fold}
use Rattle.tracker_engine.specs.Hearing.{noted}
use Rattle.tracker_engine.proofs.absorbing.note_all.Given as goal

abbrev pub invariant-loop-event : goal.invariant-loop-event
invariant-loop-event l = (l.last, l.services) ≡ fold noted (l.initial.last, l.initial.services) (take l.event-index l.events)
