use Rattle.assignment_dual.specs.Single.{IsNearest}
use Rattle.assignment_dual.proofs.single.nearest.Given as goal

abbrev pub invariant-loop-track : goal.invariant-loop-track
invariant-loop-track l = IsNearest l.costs.edges l.track-index l.entry l.least
