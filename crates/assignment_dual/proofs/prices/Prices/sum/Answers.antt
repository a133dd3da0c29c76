use Rattle.assignment_dual.proofs.Totals.{total_small}
use Rattle.assignment_dual.proofs.prices.Prices.sum.Goals as goal

pub returns-clause-small : goal.returns-clause-small
returns-clause-small c = total_small c.self.invariant
