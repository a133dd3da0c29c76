use Rattle.cluster_pool.specs.Walks.{AreAtStart}
use Rattle.cluster_pool.proofs.walking.walks_of.Given as goal

abbrev pub invariant-loop-part : goal.invariant-loop-part
invariant-loop-part g l = AreAtStart g.F.Fold.next g.F.Fold.slot_of g.F.Fold.is_out l.yielded l.walks.items
