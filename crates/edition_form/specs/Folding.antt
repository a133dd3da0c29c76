-- The table of tracks of a log: the step of each filled slot, in rising order, from the empty table.
-- A slot is filled where it holds a plot. This is the one fold that every edition is measured by.
use Rattle.std.specs.Prelude.{ℕ, List, []}
use Rattle.trk_base.specs.Numbers.{slot_of}
use Rattle.plot_geometry.specs.Plots.{PlanePlot}
use Rattle.track_life.specs.Tracks.{TrackState}
use Rattle.late_window.specs.Folding.{before}
use Rattle.slot_step.specs.Tracker.{step_tracks}
use Rattle.admission_log.specs.declared.settings.Settings.{Settings}
use Rattle.admission_log.specs.Histories.{History, last_of}
use Rattle.admission_log.specs.Plots.{plots_of}

abbrev pub slot_of_plot : PlanePlot → ℕ
slot_of_plot p = p.key.slot

-- the table before a slot: that of the filled slots below it
abbrev pub table_before : Settings → History → ℕ → List TrackState
table_before settings log slot = before (step_tracks settings.life) slot_of_plot [] (plots_of settings log) slot

-- the table of a log: that of the slots which its last tick has closed
abbrev pub table_of : Settings → History → List TrackState
table_of settings log = table_before settings log (slot_of (last_of log))
