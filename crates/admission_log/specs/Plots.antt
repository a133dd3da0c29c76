-- The plots of a log: those that were admitted, in the slots that are over at the last tick, put into the plane by the biases that the log gives for their slots, in rising key.
use Rattle.std.specs.Prelude.{ℕ, nat_lt, Bool, if◌then◌else◌, List, [], ◌∷◌, Option, None, filter_map}
use Rattle.std.specs.Option.{option_map}
use Rattle.std.specs.Ordering.{is_lt}
use Rattle.trk_base.specs.Numbers.{slot_of}
use Rattle.plot_geometry.specs.Plots.{PlanePlot}
use Rattle.plot_geometry.specs.PlotOrder.{plot_cmp}
use Rattle.plot_geometry.specs.PlanePlots.{plane_plot}
use Rattle.admission_log.specs.declared.settings.Settings.{Settings}
use Rattle.admission_log.specs.declared.entries.Entry.{Entry}
use Rattle.admission_log.specs.declared.events.Admitted.{Admitted}
use Rattle.admission_log.specs.Histories.{History, last_of, admitted_of}
use Rattle.admission_log.specs.Entries.{key_of, entries_of}
use Rattle.admission_log.specs.Biases.{radar_among}

-- in the plane, by its radar's settings with the biases that the entries give for its slot
abbrev pub plane_among : Settings → List Entry → Admitted → Option PlanePlot
plane_among settings entries a = option_map (λ radar. plane_plot radar a.plot (key_of a)) (radar_among settings entries a.radar (slot_of a.time))

-- .. that the log gives
abbrev pub plane_of : Settings → History → Admitted → Option PlanePlot
plane_of settings log a = plane_among settings (entries_of log) a

-- its slot is over
abbrev pub is_over : ℕ → Admitted → Bool
is_over last a = nat_lt (slot_of a.time) (slot_of last)

-- in the plane, if its slot is over
abbrev pub plot_over : Settings → List Entry → ℕ → Admitted → Option PlanePlot
plot_over settings entries last a = if is_over last a then plane_among settings entries a else None

-- those in slots that are over, in the order of their arrival
abbrev pub plots_over : Settings → History → List PlanePlot
plots_over settings log = filter_map (plot_over settings (entries_of log) (last_of log)) (admitted_of log)

-- put in its place in a list whose keys rise; plots of one key, which no legal log has, go by their other fields
abbrev pub put : PlanePlot → List PlanePlot → List PlanePlot
put plot [] = plot ∷ []
put plot (p ∷ ps) = if is_lt (plot_cmp p plot) then p ∷ put plot ps else plot ∷ p ∷ ps

abbrev pub in_rising_key : List PlanePlot → List PlanePlot
in_rising_key [] = []
in_rising_key (p ∷ ps) = put p (in_rising_key ps)

abbrev pub plots_of : Settings → History → List PlanePlot
plots_of settings log = in_rising_key (plots_over settings log)
