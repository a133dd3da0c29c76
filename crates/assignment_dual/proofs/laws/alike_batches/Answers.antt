use Rattle.assignment_dual.proofs.Unique.{alike_least}
use Rattle.assignment_dual.proofs.laws.alike_batches.Goals as goal

pub returns : goal.returns
returns c = alike_least
