use Rattle.cluster_pool.proofs.Gathered.{by_index}
use Rattle.cluster_pool.proofs.running.each_result.Goals as goal

pub returns-in-Ok : goal.returns-in-Ok
returns-in-Ok g c = let e = c.in-Ok.ensures in by_index c.args.jobs.items c.in-Ok.results.items e.len (λ i j r l. e.each i j r l)
