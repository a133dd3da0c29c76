-- What becomes of one message: a plot is admitted, or told why not.
use Rattle.std.specs.Prelude.{ℕ, nat_lt, ◌==◌, ◌||◌, if◌then◌else◌, Option, Some, None, Result, Ok, Err, List, slice_get, ℤ, pos, ◌-ℤ◌}
use Rattle.std.specs.Option.{option_map_or}
use Rattle.trk_base.specs.Numbers.{slot_of, unwrapped}
use Rattle.trk_base.specs.declared.plots.RawPlot.{RawPlot}
use Rattle.plot_geometry.specs.Plane.{not_below_zero}
use Rattle.plot_geometry.specs.declared.radars.RadarSettings.{RadarSettings}
use Rattle.cat048_in.specs.declared.report.Report.{Report}
use Rattle.cat048_in.specs.declared.report.NotPlot.{NotPlot}
use Rattle.cat048_in.specs.Plots.{plot_of}
use Rattle.admission_log.specs.declared.settings.Settings.{Settings}
use Rattle.admission_log.specs.declared.events.Admitted.{Admitted}
use Rattle.admission_log.specs.declared.events.Outcome.{Outcome}
use Rattle.admission_log.specs.declared.events.Outcome.TheVariants as outcomes
use Rattle.admission_log.specs.Sources.{radar_of}
use Rattle.admission_log.specs.Histories.{low_at, high_at}

-- what each time of the radar of an index is too late by
abbrev pub time_bias_of : List RadarSettings → ℕ → ℤ
time_bias_of radars radar = option_map_or (λ r. r.time_bias) (slice_get radars radar) (pos 0)

-- the time of a plot of that radar: the one nearest to the last tick that has its time of day, freed of the radar's bias
abbrev pub time_at : Settings → ℕ → ℕ → ℕ → ℕ
time_at settings last radar tod = not_below_zero (pos (unwrapped tod last) -ℤ time_bias_of settings.radars radar)

-- a plot, if its slot and its time are open
abbrev pub judged_time : Settings → ℕ → Admitted → Result Admitted Outcome
judged_time settings last a =
    if nat_lt (slot_of a.time) (low_at settings.window last) then Err (outcomes.BeforeHorizon (slot_of a.time) (low_at settings.window last))
    else if nat_lt (high_at last) a.time then Err (outcomes.Ahead a.time (high_at last))
    else Ok a

-- a plot, if its source is that of a radar
abbrev pub judged_source : Settings → ℕ → ℕ → RawPlot → Option ℕ → Result Admitted Outcome
judged_source settings last arrival plot None = Err outcomes.UnknownRadar
judged_source settings last arrival plot (Some radar) = judged_time settings last (record { arrival = arrival; radar = radar; time = time_at settings last radar plot.tod; plot = plot })

-- a report, if it tells a plot
abbrev pub judged_plot : Settings → ℕ → ℕ → Result RawPlot NotPlot → Result Admitted Outcome
judged_plot settings last arrival (Err why) = Err (outcomes.NotPlot why)
judged_plot settings last arrival (Ok plot) = judged_source settings last arrival plot (radar_of settings.radars plot.sac plot.sic)

-- what is admitted of a report after a last tick, under that arrival, or what is told of it
abbrev pub judged_report : Settings → ℕ → ℕ → Report → Result Admitted Outcome
judged_report settings last arrival report = judged_plot settings last arrival (plot_of report)

-- what is told of either
abbrev pub outcome_of : Result Admitted Outcome → Outcome
outcome_of (Ok a) = outcomes.Admitted a.arrival
outcome_of (Err outcome) = outcome

-- The radar that a service message of a source and a type counts for: that of the source, where the type is north marker, 1, or sector crossing, 2.
abbrev pub counted_radar : Settings → Option (ℕ × ℕ) → Option ℕ → Option ℕ
counted_radar settings (Some source) (Some kind) = if kind == 1 || kind == 2 then radar_of settings.radars source.0 source.1 else None
counted_radar settings _ _ = None
