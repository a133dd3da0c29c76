use Rattle.std.proofs.Common.{rules, ◌≡◌, ◌++◌, ◌∷◌, []}
use Rattle.cluster_pool.proofs.Gathered.{one_more}
use Rattle.cluster_pool.proofs.running.in_order.Goals as goal

pub loop-job-preserved : goal.loop-job-preserved
loop-job-preserved g c =
    let more = one_more c.loop-job.yielded c.loop-job.results.items c.in-Some.job c.run.result c.loop-job.invariant c.run.ensures in
    let pushed : c.push.new.self.items ≡ c.loop-job.results.items ++ c.run.result ∷ [] = search rules in
    rw pushed more
