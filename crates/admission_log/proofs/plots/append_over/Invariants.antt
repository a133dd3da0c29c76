use Rattle.std.proofs.Common.{◌≡◌, ◌++◌, take}
use Rattle.std.specs.Prelude.{filter_map}
use Rattle.admission_log.specs.Plots.{plot_over}
use Rattle.admission_log.proofs.plots.append_over.Given as goal

abbrev pub invariant-loop-one : goal.invariant-loop-one
invariant-loop-one l = l.plots.items ≡ l.fn.plots.items ++ filter_map (plot_over l.settings l.changes l.last) (take l.one-index l.admitted)
