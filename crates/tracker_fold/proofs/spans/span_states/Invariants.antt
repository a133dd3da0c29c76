use Rattle.std.proofs.Common.{◌≡◌, ◌++◌, length, map}
use Rattle.std.specs.Vec.Iter.{into_iter_items, into_iter_len}
use Rattle.tracker_fold.proofs.spans.span_states.Given as goal

abbrev pub invariant-loop-table : goal.invariant-loop-table
invariant-loop-table l = record {
  made : l.states.items ++ map (λ ts. record { life = l.life; radars = l.radars; table = ts }) (into_iter_items l.table-iterator) ≡ map (λ ts. record { life = l.life; radars = l.radars; table = ts }) (into_iter_items l.initial.table-iterator);
  count : into_iter_len l.table-iterator ≡ length (into_iter_items l.table-iterator);
}
