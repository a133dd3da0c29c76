use Rattle.assignment_dual.proofs.Restricting.{part_least}
use Rattle.assignment_dual.proofs.laws.part_of_batch.Goals as goal

pub returns : goal.returns
returns c = part_least
