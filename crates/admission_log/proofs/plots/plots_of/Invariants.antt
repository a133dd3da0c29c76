use Rattle.std.proofs.Common.{◌≡◌, take}
use Rattle.std.specs.Prelude.{filter_map}
use Rattle.std.specs.List.{flat_map}
use Rattle.admission_log.specs.Histories.{admitted_in}
use Rattle.admission_log.specs.Plots.{plot_over}
use Rattle.admission_log.proofs.plots.plots_of.Given as goal

abbrev pub invariant-loop-event : goal.invariant-loop-event
invariant-loop-event l = l.plots.items ≡ filter_map (plot_over l.settings l.changes.items l.last) (flat_map admitted_in (take l.event-index l.event-items))
