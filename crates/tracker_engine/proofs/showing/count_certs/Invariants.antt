use Rattle.std.proofs.Common.{◌≡◌, length, map, take}
use Rattle.std.specs.Prelude.{filter, flat_map, nat_le}
use Rattle.tracker_engine.proofs.showing.count_certs.Given as goal

abbrev pub invariant-loop-slot : goal.invariant-loop-slot
invariant-loop-slot l = l.count ≡ length (flat_map (λ o. map (λ k. k.cert) o.1) (filter (λ o. nat_le l.low o.0) (take l.slot-index l.outs)))
