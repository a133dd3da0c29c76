use Rattle.slot_step.proofs.Places.{ArePlacesUpTo}
use Rattle.slot_step.proofs.nearby.plot_places.Given as goal

abbrev pub invariant-loop-index : goal.invariant-loop-index
invariant-loop-index l = ArePlacesUpTo l.plots l.index l.places.items
