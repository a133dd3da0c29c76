use Rattle.std.proofs.Common.{◌≡◌, ◌++◌, eqb, length}
use Rattle.span_clusters.specs.Parts.{picked_items}
use Rattle.span_clusters.proofs.parting.items_of.Given as goal

abbrev pub invariant-loop-left : goal.invariant-loop-left
invariant-loop-left g l = record {
  picked : l.picked.items ++ picked_items (λ k. eqb k l.part) l.rest l.left ≡ picked_items (λ k. eqb k l.part) l.numbers l.items;
  each : length l.rest ≡ length l.left;
}

abbrev pub decreases-loop-left : goal.decreases-loop-left
decreases-loop-left g l = length l.left
