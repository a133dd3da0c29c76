use Rattle.assignment_dual.proofs.Sets.{two_sets}
use Rattle.assignment_dual.proofs.laws.disjoint_sets.Goals as goal

pub returns : goal.returns
returns c = two_sets
