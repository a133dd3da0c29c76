use Rattle.assignment_dual.proofs.Existing.{least_pairing_is}
use Rattle.assignment_dual.proofs.Unique.{one_least, one_of_problem}
use Rattle.assignment_dual.proofs.laws.one_least_pairing.Goals as goal

pub returns-clause-is_least : goal.returns-clause-is_least
returns-clause-is_least c = least_pairing_is

pub returns-clause-only : goal.returns-clause-only
returns-clause-only c = one_least

pub returns-clause-of_problem : goal.returns-clause-of_problem
returns-clause-of_problem c = one_of_problem
