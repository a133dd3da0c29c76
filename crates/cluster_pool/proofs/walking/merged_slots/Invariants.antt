use Rattle.std.proofs.Common.{◌≡◌, length}
use Rattle.std.specs.Vec.Iter.{into_iter_items, into_iter_len}
use Rattle.span_clusters.specs.Parts.{IsSplitting}
use Rattle.cluster_pool.proofs.Ways.{IsUnderway}
use Rattle.cluster_pool.proofs.walking.merged_slots.Given as goal

abbrev pub invariant-loop-slot : goal.invariant-loop-slot
invariant-loop-slot g l =
    let F = g.F.Fold in
    let M = g.F.Separable in
    record {
      underway : IsUnderway F.next F.slot_of F.is_out l.items (λ s. IsSplitting F.slot_of F.is_before M.is_beside M.merged s l.items l.fn.done.items) l.fn.done.items l.yielded (into_iter_items l.slot-iterator) l.walks.items l.states.items l.outs.items;
      count : into_iter_len l.slot-iterator ≡ length (into_iter_items l.slot-iterator);
    }
