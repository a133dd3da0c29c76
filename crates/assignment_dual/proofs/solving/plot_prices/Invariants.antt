use Rattle.std.proofs.Common.{◌≡◌, map, take, pos}
use Rattle.assignment_dual.proofs.solving.plot_prices.Given as goal

abbrev pub invariant-loop-price : goal.invariant-loop-price
invariant-loop-price l = l.us.items ≡ map pos (take l.price-index l.prices)
