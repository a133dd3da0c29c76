use Rattle.std.proofs.Common.{rules}
use Rattle.cluster_pool.proofs.Gathered.{all_of_jobs}
use Rattle.cluster_pool.proofs.pool.Pool.run.Goals as goal

pub returns : goal.returns
returns g c = all_of_jobs _ _ _ (search rules) c.all_or_none.ensures
