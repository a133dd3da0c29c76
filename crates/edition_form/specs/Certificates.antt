-- The certificates of a log: for each component of each batch in the slots that are still open and over, that its plots were paired
-- with least cost. Which prices prove it is left open.
use Rattle.std.specs.Prelude.{◌≡◌, ◌<◌, ◌^◌, ℕ, nat_le, List, [], map, length, filter}
use Rattle.std.specs.List.{flat_map, AllByRecursion}
use Rattle.plot_geometry.specs.Plots.{PlanePlot}
use Rattle.price_form.specs.declared.certs.Cert.{Cert}
use Rattle.late_window.specs.Folding.{slots, OutsAt}
use Rattle.slot_step.specs.declared.certs.KeyedCert.{KeyedCert}
use Rattle.slot_step.specs.Told.{AreTold}
use Rattle.slot_step.specs.Tracker.{step_tracks}
use Rattle.admission_log.specs.declared.settings.Settings.{Settings}
use Rattle.admission_log.specs.Histories.{History, last_of, low_at}
use Rattle.admission_log.specs.Plots.{plots_of}
use Rattle.edition_form.specs.Folding.{slot_of_plot}

-- the filled slots of plots from the first open one on
abbrev pub open_slots : ℕ → List PlanePlot → List ℕ
open_slots low plots = filter (nat_le low) (slots slot_of_plot plots)

-- For each of them in rising order, its certificates are those of the slot's step in the fold. They are in the order of slot, radar and least plot.
pub record AreLogCertificates (settings : Settings) (log : History) (certs : List Cert) : Type 0 where
  pub by_slot : List (List KeyedCert)
  pub each : OutsAt (step_tracks settings.life) slot_of_plot (AreTold settings.life) [] (plots_of settings log) (open_slots (low_at settings.window (last_of log)) (plots_of settings log)) by_slot
  pub all : certs ≡ flat_map (map (λ k. k.cert)) by_slot
  pub few_edges : AllByRecursion (λ c. length c.costs.edges < 2 ^ 32) certs
