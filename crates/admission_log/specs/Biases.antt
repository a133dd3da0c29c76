-- Which biases hold for a radar's plots in a slot: those of the last change, by the slot from which it holds and then by the index of its event, or the radar's own where there is none.
use Rattle.std.specs.Prelude.{◌≡◌, ◌⊎◌, ℕ, ◌<◌, ◌≤◌, nat_le, Bool, false, if◌then◌else◌, ◌==◌, ◌&&◌, List, [], ◌∷◌, filter, Option, Some, None, slice_get}
use Rattle.std.specs.Option.{option_map}
use Rattle.std.specs.List.{reduce, flat_map, enumerate_from}
use Rattle.std.specs.Ordering.{ord_max}
use Rattle.plot_geometry.specs.declared.biases.Bias as biases
use Rattle.plot_geometry.specs.declared.radars.RadarSettings.{RadarSettings}
use Rattle.plot_geometry.specs.Biases.{bias_of, biased}
use Rattle.admission_log.specs.declared.settings.Settings.{Settings}
use Rattle.admission_log.specs.declared.events.Event.{Event}
use Rattle.admission_log.specs.declared.events.Event.TheVariants as events
use Rattle.admission_log.specs.declared.entries.Entry.{Entry}
use Rattle.admission_log.specs.declared.entries.Entry.TheVariants.{Bias, Plot}
use Rattle.admission_log.specs.Histories.{History}
use Rattle.admission_log.specs.Entries.{entries_of}
use Rattle.admission_log.specs.EntryOrder.{entry_cmp}

-- an entry changes the biases of that radar, and holds for slot n
abbrev pub is_change : ℕ → ℕ → Entry → Bool
is_change radar n (Bias slot place changed bias) = changed == radar && nat_le slot n
is_change radar n (Plot key raw) = false

-- the greatest of such entries
abbrev pub last_change : ℕ → ℕ → List Entry → Option Entry
last_change radar n entries = reduce (ord_max entry_cmp) (filter (is_change radar n) entries)

abbrev pub bias_or : biases.Bias → Option Entry → biases.Bias
bias_or own (Some (Bias slot place radar bias)) = bias
bias_or own _ = own

-- by the entries, for a radar with these biases of its own
abbrev pub bias_among : List Entry → biases.Bias → ℕ → ℕ → biases.Bias
bias_among entries own radar n = bias_or own (last_change radar n entries)

-- .. by a log
abbrev pub bias_at : History → biases.Bias → ℕ → ℕ → biases.Bias
bias_at log own radar n = bias_among (entries_of log) own radar n

-- a radar's settings with the biases that hold for slot n
abbrev pub radar_among : Settings → List Entry → ℕ → ℕ → Option RadarSettings
radar_among settings entries radar n = option_map (λ r. biased r (bias_among entries (bias_of r) radar n)) (slice_get settings.radars radar)

-- .. and of one more entry
abbrev pub later : Option Entry → Entry → Entry
later None e = e
later (Some before) e = ord_max entry_cmp before e

abbrev pub last_with : ℕ → ℕ → Option Entry → Entry → Option Entry
last_with radar n last e = if is_change radar n e then Some (later last e) else last

-- the changes alone among events, in order
abbrev pub changes_in : ℕ → Event → List Entry
changes_in index (events.Bias radar slot bias) = Bias slot index radar bias ∷ []
changes_in index _ = []

abbrev pub changes_of : List Event → List Entry
changes_of events = flat_map (λ at. changes_in at.0 at.1) (enumerate_from 0 events)

-- ---- the same by the events

-- the event at an index changes the radar's biases, from a slot on that isn't above n
pub record IsChange (log : History) (radar n index slot : ℕ) (bias : biases.Bias) : Type 0 where
  pub event : slice_get log.events index ≡ Some (events.Bias radar slot bias)
  pub holds : slot ≤ n

-- .. and none does so from a later slot on, or from the same and at a later index
pub record IsLastChange (log : History) (radar n : ℕ) (bias : biases.Bias) : Type 0 where
  pub index : ℕ
  pub slot : ℕ
  pub is_change : IsChange log radar n index slot bias
  pub last : (i s : ℕ) (b : biases.Bias) → IsChange log radar n i s b → (s < slot) ⊎ ((s ≡ slot) × (i ≤ index))

-- These biases hold: they are those of the last change, or the radar's own, and there is no change.
abbrev pub HoldsAt : History → biases.Bias → ℕ → ℕ → biases.Bias → Type 0
HoldsAt log own radar n bias = IsLastChange log radar n bias ⊎ (((i s : ℕ) (b : biases.Bias) → ¬ IsChange log radar n i s b) × (bias ≡ own))
