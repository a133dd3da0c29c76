use Rattle.slot_step.proofs.Marking.{AreMarkedUpTo}
use Rattle.slot_step.proofs.nearby.address_marks.Given as goal

abbrev pub invariant-loop-plot : goal.invariant-loop-plot
invariant-loop-plot l = AreMarkedUpTo l.plots l.plot-index l.marks.items
