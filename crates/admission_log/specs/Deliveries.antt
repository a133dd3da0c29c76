-- The event of a datagram: what becomes of each of its messages, with arrivals that rise by one from the next.
use Rattle.std.specs.Prelude.{◌≡◌, ℕ, ◌+◌, List, [], map, length, take, slice_get, Option, Some, None, Result, Ok, Err}
use Rattle.std.specs.List.{filter_map}
use Rattle.asterix_frame.specs.Datagrams.{Content}
use Rattle.admission_log.specs.declared.settings.Settings.{Settings}
use Rattle.admission_log.specs.declared.events.Admitted.{Admitted}
use Rattle.admission_log.specs.declared.events.Outcome.{Outcome}
use Rattle.admission_log.specs.declared.events.Outcome.TheVariants as outcomes
use Rattle.admission_log.specs.declared.events.Event.{Event}
use Rattle.admission_log.specs.declared.events.Event.TheVariants.{Deliver}
use Rattle.admission_log.specs.Messages.{Message, report, service, Said, said_by}
use Rattle.admission_log.specs.Outcomes.{judged_report, outcome_of, counted_radar}
use Rattle.admission_log.specs.Histories.{History, appended, last_of, next_of}

-- what is admitted of a message after a last tick, under that arrival, or what is told of it
abbrev pub judged_message : Settings → ℕ → ℕ → Message → Result Admitted Outcome
judged_message settings last arrival (report r) = judged_report settings last arrival r
judged_message settings last arrival (service s) = Err (outcomes.Service (counted_radar settings s.source s.kind))

abbrev pub admitted_by : Result Admitted Outcome → Option Admitted
admitted_by (Ok a) = Some a
admitted_by (Err outcome) = None

-- how many plots these judgements admit
abbrev pub admitted_count : List (Result Admitted Outcome) → ℕ
admitted_count js = length (filter_map admitted_by js)

-- Each message is judged, under the arrival that follows those of the plots admitted before it.
pub record AreJudged (settings : Settings) (last next : ℕ) (messages : List Message) (js : List (Result Admitted Outcome)) : Type 0 where
  pub all : length js ≡ length messages
  pub each : (index : ℕ) (m : Message) → slice_get messages index ≡ Some m → slice_get js index ≡ Some (judged_message settings last (next + admitted_count (take index js)) m)

-- the event of a feed: the plots that were admitted, what was told of each message, and how many blocks were passed over
abbrev pub delivered : ℕ → List (Result Admitted Outcome) → ℕ → Event
delivered feed js other = Deliver feed (filter_map admitted_by js) (map outcome_of js) other

-- The event is that of a datagram that says this.
pub record IsDeliveryOf (settings : Settings) (last next feed : ℕ) (said : Said) (event : Event) : Type 0 where
  pub judgements : List (Result Admitted Outcome)
  pub are_judged : AreJudged settings last next said.messages judgements
  pub event_is : event ≡ delivered feed judgements said.other

-- .. of a datagram of these blocks
abbrev pub IsDelivery : Settings → ℕ → ℕ → ℕ → List Content → Event → Type 0
IsDelivery settings last next feed contents event = IsDeliveryOf settings last next feed (said_by contents) event

-- .. to a log
abbrev pub IsDeliveryTo : Settings → History → ℕ → List Content → Event → Type 0
IsDeliveryTo settings log feed contents event = IsDelivery settings (last_of log) (next_of log) feed contents event

-- what an event tells of each message
abbrev pub outcomes_in : Event → List Outcome
outcomes_in (Deliver feed admitted told other) = told
outcomes_in _ = []

-- A log has one event more, that of a datagram that says this, and this is told of its messages.
pub record DeliversOf (settings : Settings) (feed : ℕ) (said : Said) (old new : History) (told : List Outcome) : Type 0 where
  pub event : Event
  pub is_delivery : IsDeliveryOf settings (last_of old) (next_of old) feed said event
  pub new_is : new ≡ appended old event
  pub told_is : told ≡ outcomes_in event

-- .. of a datagram of these blocks
abbrev pub Delivers : Settings → ℕ → List Content → History → History → List Outcome → Type 0
Delivers settings feed contents old new told = DeliversOf settings feed (said_by contents) old new told
