use Rattle.std.proofs.Common.{length}
use Rattle.cluster_pool.proofs.WholeRuns.{AreKept}
use Rattle.cluster_pool.proofs.parts.run_apart.Given as goal

abbrev pub invariant-joins : goal.invariant-joins
invariant-joins g l =
    let F = g.F.Fold in
    let M = g.F.Separable in
    AreKept l.wish F.slot_of g.F.Item.Ord.cmp F.key_of F.is_before M.is_beside M.merged l.state l.items l.done.items l.fn.steps l.steps

abbrev pub decreases-joins : goal.decreases-joins
decreases-joins g l = length l.done.items
