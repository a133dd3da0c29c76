use Rattle.cluster_split.specs.Grouping.{AreGrouped}
use Rattle.cluster_split.proofs.grouping.components_of_plots.Given as goal

abbrev pub invariant-loop-plot : goal.invariant-loop-plot
invariant-loop-plot l = AreGrouped l.least l.plot l.parts.items l.places.items
