use Rattle.std.proofs.Common.{◌≡◌, ◌++◌, map, take}
use Rattle.admission_log.specs.Entries.{plot_entry}
use Rattle.admission_log.proofs.entries.append_plots.Given as goal

abbrev pub invariant-loop-plot : goal.invariant-loop-plot
invariant-loop-plot l = l.entries.items ≡ l.fn.entries.items ++ map plot_entry (take l.plot-index l.admitted)
