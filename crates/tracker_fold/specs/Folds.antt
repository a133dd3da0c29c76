-- The fold of a log's entries, and that of its plots.
use Rattle.std.specs.Prelude.{◌≡◌, ◌<◌, ◌≤◌, ◌^◌, ◌↔◌, ℕ, nat_le, List, [], filter, map, length, Contains}
use Rattle.std.specs.List.{AllByRecursion, flat_map}
use Rattle.std.specs.List.Sorted.{IsStrictlyIncreasing}
use Rattle.trk_base.specs.Numbers.{slot_of}
use Rattle.plot_geometry.specs.Plots.{PlanePlot}
use Rattle.track_life.specs.Tracks.{TrackState}
use Rattle.late_window.specs.Folding.{before, slots, OutsAt}
use Rattle.late_window.specs.Windows.{AreInOrder}
use Rattle.slot_step.specs.declared.certs.KeyedCert.{KeyedCert}
use Rattle.slot_step.specs.Told.{AreTold}
use Rattle.slot_step.specs.Tracker.{step_tracks}
use Rattle.admission_log.specs.declared.settings.Settings.{Settings}
use Rattle.admission_log.specs.declared.entries.Entry.{Entry}
use Rattle.admission_log.specs.Histories.{History, last_of}
use Rattle.admission_log.specs.Entries.{entries_of, slot_in}
use Rattle.admission_log.specs.EntryOrder.{entry_cmp}
use Rattle.admission_log.specs.Plots.{plots_of}
use Rattle.tracker_fold.specs.declared.state.TrackerState.{TrackerState}
use Rattle.tracker_fold.specs.Keys.{key_in}
use Rattle.tracker_fold.specs.Starts.{start}
use Rattle.tracker_fold.specs.Steps.{next}

-- these are the entries of a log, in rising order
abbrev pub AreEntriesOf : History → List Entry → Type 0
AreEntriesOf log all = AreInOrder entry_cmp key_in (entries_of log) all

-- the tracker's state before a slot, by entries in rising order
abbrev pub state_before : Settings → List Entry → ℕ → TrackerState
state_before settings all n = before next slot_in (start settings) all n

abbrev pub slot_of_plot : PlanePlot → ℕ
slot_of_plot p = p.key.slot

-- the tracks before a slot, by the plots of a log
abbrev pub tracks_before : Settings → History → ℕ → List TrackState
tracks_before settings log n = before (step_tracks settings.life) slot_of_plot [] (plots_of settings log) n

-- ---- certificates, slot by slot

-- one of these entries is of slot n
pub record IsFilled (entries : List Entry) (n : ℕ) : Type 0 where
  pub entry : Entry
  pub there : Contains entries entry
  pub of_slot : slot_in entry ≡ n

-- These are the slots from low on that an entry of the log fills and that are over at its last tick, in rising order.
pub record AreFilledFrom (log : History) (low : ℕ) (filled : List ℕ) : Type 0 where
  pub rising : IsStrictlyIncreasing filled
  pub all : (n : ℕ) → Contains filled n ↔ ((low ≤ n) × (n < slot_of (last_of log)) × IsFilled (entries_of log) n)

-- What is told by slot are the certificates of the log's plots in the slots from low on, one list for each slot that has plots.
pub record AreCertificatesFrom (settings : Settings) (log : History) (low : ℕ) (told : List (List KeyedCert)) : Type 0 where
  pub by_slot : List (List KeyedCert)
  pub each : OutsAt (step_tracks settings.life) slot_of_plot (AreTold settings.life) [] (plots_of settings log) (filter (nat_le low) (slots slot_of_plot (plots_of settings log))) by_slot
  pub all : flat_map (map (λ k. k.cert)) told ≡ flat_map (map (λ k. k.cert)) by_slot
  pub few_edges : AllByRecursion (λ c. length c.costs.edges < 2 ^ 32) (flat_map (map (λ k. k.cert)) told)
