use Rattle.assignment_dual.proofs.Signed.{no_cheaper_signed}
use Rattle.assignment_dual.proofs.laws.proven_least.Goals as goal

pub returns : goal.returns
returns c = λ p xs ys us vs. no_cheaper_signed
