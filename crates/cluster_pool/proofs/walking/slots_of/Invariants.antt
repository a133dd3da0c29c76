use Rattle.std.proofs.Common.{◌≡◌, ◌++◌, length}
use Rattle.late_window.specs.Folding.{Rises, slots}
use Rattle.cluster_pool.proofs.walking.slots_of.Given as goal

abbrev pub invariant-loop-rest : goal.invariant-loop-rest
invariant-loop-rest g l = record {
  slots : slots g.F.Fold.slot_of l.items ≡ l.filled.items ++ slots g.F.Fold.slot_of l.rest;
  rising : Rises g.F.Item.Ord.cmp g.F.Fold.key_of l.rest;
}

abbrev pub decreases-loop-rest : goal.decreases-loop-rest
decreases-loop-rest g l = length l.rest
