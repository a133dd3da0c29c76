use Rattle.cluster_pool.proofs.WholeRuns.{AreJoined}
use Rattle.cluster_pool.proofs.joining.join_all.Given as goal

abbrev pub invariant-loop-place : goal.invariant-loop-place
invariant-loop-place g l =
    let F = g.F.Fold in
    let M = g.F.Separable in
    AreJoined F.slot_of g.F.Item.Ord.cmp F.key_of F.is_before M.is_beside M.merged l.fn.done.items l.place l.jobs.items l.done.items l.initial.steps l.steps
