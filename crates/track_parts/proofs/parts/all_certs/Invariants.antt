use Rattle.std.proofs.Common.{◌≡◌, [], length}
use Rattle.std.specs.Prelude.{fold}
use Rattle.std.specs.Vec.Iter.{into_iter_items, into_iter_len}
use Rattle.track_parts.specs.Tracking.{both_certs}
use Rattle.track_parts.proofs.parts.all_certs.Given as goal

abbrev pub invariant-loop-out : goal.invariant-loop-out
invariant-loop-out l = record {
  count : into_iter_len l.out-iterator ≡ length (into_iter_items l.out-iterator);
  folded : fold both_certs l.certs.items (into_iter_items l.out-iterator) ≡ fold both_certs [] (into_iter_items l.initial.out-iterator);
}
