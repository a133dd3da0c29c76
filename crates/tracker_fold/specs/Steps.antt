-- The tracker's step over the entries of a log: from the state before a slot, and the slot's entries, the state after it.
use Rattle.std.specs.Prelude.{ℕ, List, fold, filter_map, set, Option, Some, None, slice_get}
use Rattle.std.specs.Option.{option_map}
use Rattle.std.specs.List.{AllByRecursion}
use Rattle.plot_geometry.specs.declared.radars.RadarSettings.{RadarSettings}
use Rattle.plot_geometry.specs.Biases.{biased}
use Rattle.plot_geometry.specs.Plots.{PlanePlot}
use Rattle.plot_geometry.specs.PlanePlots.{plane_plot}
use Rattle.price_form.specs.Certificates.{IsCert}
use Rattle.late_window.specs.Folding.{InSlot, stepped}
use Rattle.slot_step.specs.declared.certs.KeyedCert.{KeyedCert}
use Rattle.slot_step.specs.Tracker.{step_tracks}
use Rattle.slot_step.specs.Calls.{AreFromBefore}
use Rattle.slot_step.specs.Told.{AreTold}
use Rattle.admission_log.specs.declared.entries.Entry.{Entry}
use Rattle.admission_log.specs.declared.entries.Entry.TheVariants.{Bias, Plot}
use Rattle.admission_log.specs.Entries.{slot_in}
use Rattle.tracker_fold.specs.declared.state.TrackerState.{TrackerState}

-- ---- radars: a change of biases holds from its slot on, for that slot's own plots too

-- with the radar in the place of the one at an index
abbrev pub with_radar : List RadarSettings → ℕ → Option RadarSettings → List RadarSettings
with_radar radars index None = radars
with_radar radars index (Some radar) = set radars index radar

abbrev pub changed : List RadarSettings → Entry → List RadarSettings
changed radars (Bias slot place radar bias) = with_radar radars radar (option_map (λ r. biased r bias) (slice_get radars radar))
changed radars (Plot key raw) = radars

-- after the changes among entries, in their order
unfoldable pub radars_after : List RadarSettings → List Entry → List RadarSettings
radars_after radars entries = fold changed radars entries

-- ---- plots

-- a plot in the plane by its radar as it is then
abbrev pub plane : List RadarSettings → Entry → Option PlanePlot
plane radars (Bias slot place radar bias) = None
plane radars (Plot key raw) = option_map (λ r. plane_plot r raw key) (slice_get radars key.radar)

abbrev pub planes : List RadarSettings → List Entry → List PlanePlot
planes radars entries = filter_map (plane radars) entries

-- entries of one slot
abbrev pub AreOfOneSlot : List Entry → Type 0
AreOfOneSlot entries = (n : ℕ) × InSlot slot_in n entries

-- ---- the step

-- the state with these radars, and with the tracks after a slot's plots: a slot without plots leaves the table as it is, and tracks
-- expire in the next slot that has some
abbrev pub moved : TrackerState → List RadarSettings → ℕ → List PlanePlot → TrackerState
moved s radars slot plots = record { life = s.life; radars = radars; table = stepped (step_tracks s.life) s.table slot plots }

unfoldable pub next : TrackerState → ℕ → List Entry → TrackerState
next s slot entries = moved s (radars_after s.radars entries) slot (planes (radars_after s.radars entries) entries)

-- a certificate for each component of each batch of the slot's plots, in the order of radar and least plot
pub record AreCertified (s : TrackerState) (slot : ℕ) (plots : List PlanePlot) (certs : List KeyedCert) : Type 0 where
  pub told : AreTold s.life s.table slot plots certs
  pub whole : AllByRecursion (λ c. IsCert c.cert) certs

abbrev pub IsOut : TrackerState → ℕ → List Entry → List KeyedCert → Type 0
IsOut s slot entries certs = AreCertified s slot (planes (radars_after s.radars entries) entries) certs

-- all of the state's tracks are from before the slot
abbrev pub IsBefore : TrackerState → ℕ → Type 0
IsBefore s slot = AreFromBefore slot s.table
