use Rattle.std.proofs.Common.{◌≡◌, map, take, pos, ◌-ℤ◌}
use Rattle.trk_base.specs.Limits.{miss_cost}
use Rattle.assignment_dual.proofs.solving.track_prices.Given as goal

abbrev pub invariant-loop-price : goal.invariant-loop-price
invariant-loop-price l = l.vs.items ≡ map (λ q. pos q -ℤ pos miss_cost) (take l.price-index l.prices)
