use Rattle.slot_step.proofs.Problems.{problem_least}
use Rattle.slot_step.proofs.laws.problem_of_batch.Goals as goal

pub returns : goal.returns
returns g c = problem_least
