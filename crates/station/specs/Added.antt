-- Which events the turns of a token add.
use Rattle.std.specs.Prelude.{◌≡◌, ◌==◌, ℕ, Bool, true, false, List, Option, Some, None, slice_get}
use Rattle.turn_lock.specs.Lists.{is_member}
use Rattle.admission_log.specs.declared.events.Event.{Event}
use Rattle.admission_log.specs.declared.events.Event.TheVariants.{Deliver, Tick, Publish}

-- a datagram that came from the feed
abbrev pub is_of_feed : ℕ → Event → Bool
is_of_feed feed (Deliver by admitted outcomes other) = by == feed
is_of_feed feed _ = false

-- a tick or an edition
abbrev pub is_of_conductor : Event → Bool
is_of_conductor (Tick time) = true
is_of_conductor (Publish number cut) = true
is_of_conductor _ = false

-- such an event is there
abbrev pub is_such : (Event → Bool) → Option Event → Bool
is_such such None = false
is_such such (Some event) = such event

-- .. at that index
abbrev pub stands_at : (Event → Bool) → ℕ → List Event → Bool
stands_at such index events = is_such such (slice_get events index)

-- .. at each of these indices
abbrev pub AllAt : (Event → Bool) → List ℕ → List Event → Type 0
AllAt such indices events = (index : ℕ) → is_member index indices ≡ true → stands_at such index events ≡ true
