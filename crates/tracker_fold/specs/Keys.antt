-- What tells entries apart that stand together: of a change its slot and the index of its event, of a plot its key.
use Rattle.std.specs.Prelude.{ℕ}
use Rattle.admission_log.specs.declared.entries.Entry.{Entry}
use Rattle.admission_log.specs.declared.entries.Entry.TheVariants.{Bias, Plot}
use Rattle.tracker_fold.specs.declared.keys.EntryKey.{EntryKey}
use Rattle.tracker_fold.specs.declared.keys.EntryKey.TheVariants as keys

abbrev pub key_in : Entry → EntryKey
key_in (Bias slot place radar bias) = keys.Change slot place
key_in (Plot key raw) = keys.Plot key

-- the slot that it tells
abbrev pub slot_of_key : EntryKey → ℕ
slot_of_key (keys.Change slot place) = slot
slot_of_key (keys.Plot key) = key.slot
