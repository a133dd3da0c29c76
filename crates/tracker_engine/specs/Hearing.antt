-- What an engine keeps of ticks and service messages, event by event.
use Rattle.std.specs.Prelude.{ℕ, max, List, fold, Option, Some, set}
use Rattle.admission_log.specs.declared.events.Event.{Event}
use Rattle.admission_log.specs.declared.events.Event.TheVariants.{Deliver, Tick}
use Rattle.admission_log.specs.declared.events.Outcome.{Outcome}
use Rattle.admission_log.specs.declared.events.Outcome.TheVariants.{Service}

-- the last tick after one more event
abbrev pub tick_after : ℕ → Event → ℕ
tick_after last (Tick time) = max last time
tick_after last _ = last

-- of each radar the last tick at its newest service message, after one more message
abbrev pub heard : ℕ → List (Option ℕ) → Outcome → List (Option ℕ)
heard last services (Service (Some radar)) = set services radar (Some last)
heard last services _ = services

-- .. after one more event
abbrev pub services_after : ℕ → List (Option ℕ) → Event → List (Option ℕ)
services_after last services (Deliver feed admitted told other) = fold (heard last) services told
services_after last services _ = services

-- both
abbrev pub noted : ℕ × List (Option ℕ) → Event → ℕ × List (Option ℕ)
noted kept event = (tick_after kept.0 event, services_after kept.0 kept.1 event)
