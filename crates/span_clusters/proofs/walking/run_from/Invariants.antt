use Rattle.std.proofs.Common.{length}
use Rattle.span_clusters.specs.Runs.{IsLeftOf}
use Rattle.span_clusters.proofs.walking.run_from.Given as goal

abbrev pub invariant-loop-first : goal.invariant-loop-first
invariant-loop-first g l = IsLeftOf g.F.Fold.next g.F.Fold.slot_of g.F.Item.Ord.cmp g.F.Fold.key_of l.start l.items l.slot l.state l.rest l.left

abbrev pub decreases-loop-first : goal.decreases-loop-first
decreases-loop-first g l = length l.rest
