use Rattle.std.proofs.Common.{◌≡◌, ◌++◌, take}
use Rattle.std.specs.Prelude.{filter, flat_map, nat_le}
use Rattle.tracker_fold.specs.Priced.{told_octets}
use Rattle.tracker_engine.proofs.showing.append_prices.Given as goal

abbrev pub invariant-loop-slot : goal.invariant-loop-slot
invariant-loop-slot l = l.octets.items ≡ l.fn.octets.items ++ flat_map (λ o. told_octets o.1) (filter (λ o. nat_le l.low o.0) (take l.slot-index l.outs))
