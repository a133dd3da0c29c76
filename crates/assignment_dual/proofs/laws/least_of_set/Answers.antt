use Rattle.assignment_dual.proofs.Sets.{least_of_set}
use Rattle.assignment_dual.proofs.laws.least_of_set.Goals as goal

pub returns : goal.returns
returns c = least_of_set
