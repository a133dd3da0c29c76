use Rattle.std.proofs.Common.{◌+◌, length}
use Rattle.span_clusters.proofs.Merging.{Underway}
use Rattle.span_clusters.proofs.joining.merged_items.Given as goal

abbrev pub invariant-loop-items : goal.invariant-loop-items
invariant-loop-items g l = Underway g.F.Item.Ord.cmp g.F.Fold.key_of l.one l.other l.items.items l.left l.right

abbrev pub decreases-loop-items : goal.decreases-loop-items
decreases-loop-items g l = length l.left + length l.right
