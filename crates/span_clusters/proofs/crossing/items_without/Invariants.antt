use Rattle.std.proofs.Common.{length}
use Rattle.span_clusters.proofs.GatheredItems.{IsTakenOut}
use Rattle.span_clusters.proofs.crossing.items_without.Given as goal

abbrev pub invariant-loop-left : goal.invariant-loop-left
invariant-loop-left g l = IsTakenOut g.F.Item.Ord.cmp g.F.Fold.key_of l.own l.all l.others.items l.left l.mine

abbrev pub decreases-loop-left : goal.decreases-loop-left
decreases-loop-left g l = length l.left
