use Rattle.cluster_pool.specs.Results.{AreResultsOf}
use Rattle.cluster_pool.proofs.running.in_order.Given as goal

abbrev pub invariant-loop-job : goal.invariant-loop-job
invariant-loop-job g l = AreResultsOf l.yielded l.results.items
