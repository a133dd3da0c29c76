use Rattle.std.proofs.Common.{◌≡◌, ◌≤◌, ◌*◌, sum, take}
use Rattle.assignment_dual.proofs.prices.sum_of.Given as goal

abbrev pub invariant-loop-price : goal.invariant-loop-price
invariant-loop-price l = (l.sum ≡ sum (take l.price-index l.prices)) × (l.sum ≤ 4097 * l.price-index)
