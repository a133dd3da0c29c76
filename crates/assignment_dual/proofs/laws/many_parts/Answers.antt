use Rattle.assignment_dual.proofs.Parts.{many_parts}
use Rattle.assignment_dual.proofs.laws.many_parts.Goals as goal

pub returns : goal.returns
returns c = many_parts
