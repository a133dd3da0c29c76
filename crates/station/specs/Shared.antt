-- The history of what the threads share, and what no turn changes of it.
use Rattle.std.specs.Prelude.{List}
use Rattle.admission_log.specs.declared.events.Event.{Event}
use Rattle.station.specs.declared.shared.Base.{Base}
use Rattle.station.specs.Newest.{Shared}

abbrev pub base_of : Shared → Base
base_of shared = record { settings = shared.settings; start = shared.log.start }

abbrev pub events_of : Shared → List Event
events_of shared = shared.log.events
