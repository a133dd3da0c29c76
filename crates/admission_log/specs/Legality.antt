-- Which logs are legal under settings: each event fits the events before it.
use Rattle.std.specs.Prelude.{◌≡◌, ⊤, ℕ, ◌+◌, ◌<◌, ◌≤◌, ◌^◌, List, length, map, All, Option, Some, None, slice_get}
use Rattle.std.specs.List.{filter_map, range_with_len}
use Rattle.trk_base.specs.Numbers.{slot_of}
use Rattle.admission_log.specs.declared.settings.Settings.{Settings}
use Rattle.admission_log.specs.declared.events.Admitted.{Admitted}
use Rattle.admission_log.specs.declared.events.Outcome.{Outcome}
use Rattle.admission_log.specs.declared.events.Outcome.TheVariants as outcomes
use Rattle.admission_log.specs.declared.events.Event.{Event}
use Rattle.admission_log.specs.declared.events.Event.TheVariants.{Deliver, Tick, Publish, Bias}
use Rattle.admission_log.specs.Sources.{radar_of}
use Rattle.admission_log.specs.Histories.{History, first, last_of, next_of, published_of, cut_of, low_at, high_at}
use Rattle.admission_log.specs.Outcomes.{time_at}
use Rattle.admission_log.specs.Changes.{IsOpenChange}

-- the arrival that an outcome tells
abbrev pub arrival_in : Outcome → Option ℕ
arrival_in (outcomes.Admitted arrival) = Some arrival
arrival_in _ = None

-- an admitted plot has its radar's index and its time, and both its slot and its time were open
pub record IsLegalPlot (settings : Settings) (last : ℕ) (a : Admitted) : Type 0 where
  pub radar : radar_of settings.radars a.plot.sac a.plot.sic ≡ Some a.radar
  pub time : a.time ≡ time_at settings last a.radar a.plot.tod
  pub not_late : low_at settings.window last ≤ slot_of a.time
  pub not_ahead : a.time ≤ high_at last

-- it was legal after some tick that isn't later than this one
pub record WasOpen (settings : Settings) (last : ℕ) (a : Admitted) : Type 0 where
  pub tick : ℕ
  pub earlier : tick ≤ last
  pub legal : IsLegalPlot settings tick a

-- a plot that wasn't taken was late, or ahead
abbrev pub IsLegalOutcome : Settings → ℕ → Outcome → Type 0
IsLegalOutcome settings last (outcomes.BeforeHorizon slot low) = slot < low_at settings.window last
IsLegalOutcome settings last (outcomes.Ahead time high) = high_at last < time
IsLegalOutcome settings last _ = ⊤

-- The arrivals told are the next numbers, one for each admitted plot in order, and these have them.
pub record IsLegalDelivery (settings : Settings) (last next : ℕ) (admitted : List Admitted) (told : List Outcome) : Type 0 where
  pub arrivals : filter_map arrival_in told ≡ range_with_len next (length admitted)
  pub own_arrivals : map (λ a. a.arrival) admitted ≡ filter_map arrival_in told
  pub plots : All (IsLegalPlot settings last) admitted
  pub others : All (IsLegalOutcome settings last) told

-- The event fits these earlier ones: a tick is later than they are; an edition has the next number, and shows no fewer events than the one before it and none that isn't there; a change of biases is open.
abbrev pub IsLegalEvent : Settings → History → Event → Type 0
IsLegalEvent settings before (Deliver feed admitted told other) = IsLegalDelivery settings (last_of before) (next_of before) admitted told
IsLegalEvent settings before (Tick time) = (last_of before < time) × (time < 2 ^ 40)
IsLegalEvent settings before (Publish number cut) = (number ≡ published_of before + 1) × (cut_of before ≤ cut) × (cut ≤ length before.events)
IsLegalEvent settings before (Bias radar slot bias) = IsOpenChange settings (last_of before) radar slot × (slot < 2 ^ 34)

pub record IsLegal (settings : Settings) (log : History) : Type 0 where
  pub each : (index : ℕ) (event : Event) → slice_get log.events index ≡ Some event → IsLegalEvent settings (first index log) event
