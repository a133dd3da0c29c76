use Rattle.std.proofs.Common.{◌≡◌, ◌++◌, map, take}
use Rattle.tracker_engine.proofs.showing.append_certs.Given as goal

abbrev pub invariant-loop-keyed : goal.invariant-loop-keyed
invariant-loop-keyed l = l.certs.items ≡ l.fn.certs.items ++ map (λ k. k.cert) (take l.keyed-index l.told)
