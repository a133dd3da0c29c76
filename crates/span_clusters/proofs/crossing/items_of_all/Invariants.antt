use Rattle.std.proofs.Common.{length}
use Rattle.span_clusters.proofs.GatheredItems.{IsGathered}
use Rattle.span_clusters.proofs.crossing.items_of_all.Given as goal

abbrev pub invariant-loop-rest : goal.invariant-loop-rest
invariant-loop-rest g l = IsGathered g.F.Item.Ord.cmp g.F.Fold.key_of l.done l.all.items l.rest

abbrev pub decreases-loop-rest : goal.decreases-loop-rest
decreases-loop-rest g l = length l.rest
