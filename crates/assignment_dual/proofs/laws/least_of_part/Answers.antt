use Rattle.assignment_dual.proofs.Parts.{least_of_part}
use Rattle.assignment_dual.proofs.laws.least_of_part.Goals as goal

pub returns : goal.returns
returns c = least_of_part
