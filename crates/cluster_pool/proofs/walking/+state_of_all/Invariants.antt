use Rattle.std.proofs.Common.{length}
use Rattle.cluster_pool.proofs.walking.+state_of_all.Given as goal

abbrev pub decreases-state_of_all : goal.decreases-state_of_all
decreases-state_of_all g l = length l.walks.now
