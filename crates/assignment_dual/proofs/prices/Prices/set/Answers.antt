use Rattle.std.proofs.Common.{arith}
use Rattle.assignment_dual.proofs.Totals.{total_small}
use Rattle.assignment_dual.proofs.prices.Prices.set.Goals as goal

pub overflow_add-self : goal.overflow_add-self
overflow_add-self c = omega (arith, total_small c.self.invariant, c.from-2.ensures, c.requires.small)
