use Rattle.std.specs.List.{AllByRecursion}
use Rattle.std.specs.Vec.Iter.{into_iter_items}
use Rattle.cluster_pool.specs.Walks.{GoOn}
use Rattle.cluster_pool.proofs.walking.all_gone_on.Given as goal

abbrev pub invariant-loop-walk : goal.invariant-loop-walk
invariant-loop-walk g l = record {
  gone : GoOn g.F.Fold.next l.slot l.yielded l.after.items l.told.items;
  left : AllByRecursion (λ w. g.F.Fold.is_before w.state l.slot) (into_iter_items l.walk-iterator);
}
