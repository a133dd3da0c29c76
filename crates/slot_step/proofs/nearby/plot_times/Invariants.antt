use Rattle.slot_step.proofs.Places.{AreTimesUpTo}
use Rattle.slot_step.proofs.nearby.plot_times.Given as goal

abbrev pub invariant-loop-plot : goal.invariant-loop-plot
invariant-loop-plot l = AreTimesUpTo l.plots l.plot-index (l.earliest, l.latest)
