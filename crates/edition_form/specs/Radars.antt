-- What a log tells of its radars beside their plots: when a service message last came from each,
-- and which biases hold.
use Rattle.std.specs.Prelude.{ℕ, Bool, false, if◌then◌else◌, ◌==◌, List, map, length, Option, Some, None}
use Rattle.std.specs.List.{filter_map, enumerate_from, range_with_len, last_or, list_any}
use Rattle.trk_base.specs.Numbers.{slot_of}
use Rattle.plot_geometry.specs.declared.biases.Bias.{Bias}
use Rattle.plot_geometry.specs.Biases.{bias_of}
use Rattle.admission_log.specs.declared.settings.Settings.{Settings}
use Rattle.admission_log.specs.declared.events.Event.{Event}
use Rattle.admission_log.specs.declared.events.Event.TheVariants.{Deliver}
use Rattle.admission_log.specs.declared.events.Outcome.{Outcome}
use Rattle.admission_log.specs.declared.events.Outcome.TheVariants.{Service}
use Rattle.admission_log.specs.Histories.{History, first, last_of}
use Rattle.admission_log.specs.Biases.{bias_at}

-- ---- service messages: north marker and sector crossing (I034/000, 1 and 2)

-- it counts for the radar of this index
abbrev pub is_service : ℕ → Outcome → Bool
is_service radar (Service (Some r)) = r == radar
is_service radar _ = false

-- the event is a datagram with one
abbrev pub has_service : ℕ → Event → Bool
has_service radar (Deliver feed admitted told other) = list_any (is_service radar) told
has_service radar _ = false

-- the last tick at each such event, in order
abbrev pub services_in : History → ℕ → List ℕ
services_in log radar = filter_map (λ at. if has_service radar at.1 then Some (last_of (first at.0 log)) else None) (enumerate_from 0 log.events)

-- that at the newest one, or none
abbrev pub service_of : History → ℕ → Option ℕ
service_of log radar = last_or None (services_in log radar)

-- of each radar
abbrev pub services_of : Settings → History → List (Option ℕ)
services_of settings log = map (service_of log) (range_with_len 0 (length settings.radars))

-- ---- biases

-- of each radar those that hold for the slot of the last tick
abbrev pub biases_of : Settings → History → List Bias
biases_of settings log = map (λ at. bias_at log (bias_of at.1) at.0 (slot_of (last_of log))) (enumerate_from 0 settings.radars)
