use Rattle.std.proofs.Common.{◌≡◌, ◌+◌, take}
use Rattle.std.specs.List.{flat_map, enumerate_from}
use Rattle.admission_log.specs.Entries.{entries_in}
use Rattle.tracker_engine.proofs.absorbing.entries_of.Given as goal

abbrev pub invariant-loop-event : goal.invariant-loop-event
invariant-loop-event l = (l.place ≡ l.index + l.event-index) × (l.entries.items ≡ flat_map (λ at. entries_in at.0 at.1) (enumerate_from l.index (take l.event-index l.events)))
