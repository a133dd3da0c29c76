use Rattle.std.proofs.Common.{◌≡◌, ◌++◌, length}
use Rattle.std.specs.List.Sorted.{IsStrictlySortedBy}
use Rattle.span_clusters.specs.Jobs.{pair_cmp}
use Rattle.span_clusters.proofs.crossing.pairs_in_order.Given as goal

abbrev pub invariant-loop-pair : goal.invariant-loop-pair
invariant-loop-pair l = record {
  all : l.pairs.items ++ l.found.keys ≡ l.fn.found.keys;
  rising : IsStrictlySortedBy pair_cmp l.fn.found.keys;
}

abbrev pub decreases-loop-pair : goal.decreases-loop-pair
decreases-loop-pair l = length l.found.keys
