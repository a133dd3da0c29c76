-- A log as a list of events, and the moments that it has come to.
use Rattle.std.specs.Prelude.{ℕ, ◌+◌, ◌-◌, ◌++◌, [], ◌∷◌, max, List, length, fold, Option, Some, None, take}
use Rattle.std.specs.List.{flat_map, filter_map}
use Rattle.trk_base.specs.Numbers.{slot_of}
use Rattle.admission_log.specs.declared.events.Admitted.{Admitted}
use Rattle.admission_log.specs.declared.events.Event.{Event}
use Rattle.admission_log.specs.declared.events.Event.TheVariants.{Deliver, Tick, Publish}

-- a start, and the events since
pub record History : Type 0 where
  pub start : ℕ
  pub events : List Event

-- with one more event
abbrev pub appended : History → Event → History
appended h e = record { start = h.start; events = h.events ++ e ∷ [] }

-- with its first events alone
abbrev pub first : ℕ → History → History
first n h = record { start = h.start; events = take n h.events }

-- ---- what one event tells

abbrev pub tick_in : Event → Option ℕ
tick_in (Tick time) = Some time
tick_in _ = None

abbrev pub admitted_in : Event → List Admitted
admitted_in (Deliver feed admitted outcomes other) = admitted
admitted_in _ = []

-- the number and the cut of an edition
abbrev pub published_in : Event → Option (ℕ × ℕ)
published_in (Publish number cut) = Some (number, cut)
published_in _ = None

-- ---- what all of them tell

-- the greatest tick, or the start
abbrev pub last_of : History → ℕ
last_of h = fold max h.start (filter_map tick_in h.events)

-- the plots that were admitted, in order
abbrev pub admitted_of : History → List Admitted
admitted_of h = flat_map admitted_in h.events

-- the arrival of the next plot: how many were admitted
abbrev pub next_of : History → ℕ
next_of h = length (admitted_of h)

-- the editions that were published, in order
abbrev pub publications_of : History → List (ℕ × ℕ)
publications_of h = filter_map published_in h.events

-- how many there are
abbrev pub published_of : History → ℕ
published_of h = length (publications_of h)

-- the greatest cut of one, or 0
abbrev pub cut_of : History → ℕ
cut_of h = fold (λ cut p. max cut p.1) 0 (publications_of h)

-- ---- what is still open after a last tick

-- the first slot that a plot may have, for a window of so many slots
abbrev pub low_at : ℕ → ℕ → ℕ
low_at window last = slot_of last - window

-- the last time that a plot may have
abbrev pub high_at : ℕ → ℕ
high_at last = last + 512
