use Rattle.std.proofs.Common.{◌≡◌, List, map, take}
use Rattle.trk_base.specs.declared.keys.Key.{Key}
use Rattle.slot_step.specs.Components.{AreAt}
use Rattle.slot_step.proofs.certs.birth_arrivals.Given as goal

abbrev pub invariant-loop-index : goal.invariant-loop-index
invariant-loop-index l = (births : List Key) → AreAt (map (λ t. t.birth) l.tracks) l.indices births → l.arrivals ≡ map (λ b. b.arrival) (take l.index-index births)
