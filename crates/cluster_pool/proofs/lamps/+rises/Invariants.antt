use Rattle.std.proofs.Common.{length}
use Rattle.cluster_pool.proofs.lamps.+rises.Given as goal

abbrev pub decreases-rises : goal.decreases-rises
decreases-rises g l = length l.items.now
