-- The entries of a log: each change of a radar's biases and each admitted plot is one, in the order of the log.
use Rattle.std.specs.Prelude.{◌≢◌, ⊤, ℕ, List, [], ◌∷◌, map, refl}
use Rattle.std.specs.List.{flat_map, enumerate_from, AllByRecursion}
use Rattle.trk_base.specs.Numbers.{slot_of}
use Rattle.trk_base.specs.declared.keys.Key.{Key}
use Rattle.admission_log.specs.declared.events.Admitted.{Admitted}
use Rattle.admission_log.specs.declared.events.Event.{Event}
use Rattle.admission_log.specs.declared.events.Event.TheVariants as events
use Rattle.admission_log.specs.declared.entries.Entry.{Entry}
use Rattle.admission_log.specs.declared.entries.Entry.TheVariants.{Bias, Plot}
use Rattle.admission_log.specs.Histories.{History}

-- by slot, then radar, then time, then arrival
abbrev pub key_of : Admitted → Key
key_of a = record { slot = slot_of a.time; radar = a.radar; time = a.time; arrival = a.arrival; in_slot = refl }

abbrev pub plot_entry : Admitted → Entry
plot_entry a = Plot (key_of a) a.plot

-- those of the event at an index
abbrev pub entries_in : ℕ → Event → List Entry
entries_in index (events.Deliver feed admitted told other) = map plot_entry admitted
entries_in index (events.Bias radar slot bias) = Bias slot index radar bias ∷ []
entries_in index _ = []

-- those of all events, from the index 0 on
abbrev pub entries_of : History → List Entry
entries_of log = flat_map (λ at. entries_in at.0 at.1) (enumerate_from 0 log.events)

-- ---- what an entry tells

-- the slot of a plot, or the first for which a change holds
abbrev pub slot_in : Entry → ℕ
slot_in (Bias slot place radar bias) = slot
slot_in (Plot key raw) = key.slot

-- what tells entries apart: of a change its slot and the index of its event, of a plot its key
pub data EntryKey : Type 0 where
  change_key : ℕ → ℕ → EntryKey
  plot_key : Key → EntryKey

abbrev pub entry_key : Entry → EntryKey
entry_key (Bias slot place radar bias) = change_key slot place
entry_key (Plot key raw) = plot_key key

-- no two have one key
abbrev pub HaveOwnKeys : List Entry → Type 0
HaveOwnKeys [] = ⊤
HaveOwnKeys (e ∷ es) = AllByRecursion (λ x. entry_key x ≢ entry_key e) es × HaveOwnKeys es
