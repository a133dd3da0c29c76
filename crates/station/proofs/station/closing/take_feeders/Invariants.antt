use Rattle.std.proofs.Common.{◌≡◌, ◌≤◌, ◌+◌, ◌++◌, map, length, vec_len, vec_capacity}
use Rattle.std.specs.Vec.Iter.{into_iter_items, into_iter_len}
use Rattle.station.proofs.station.closing.take_feeders.Given as goal

abbrev pub invariant-loop-feeder : goal.invariant-loop-feeder
invariant-loop-feeder l = record {
  all : l.turns.items ++ map (λ x. x.turn) (into_iter_items l.feeder-iterator) ≡ l.fn.turns.items ++ map (λ x. x.turn) l.fn.feeders.items;
  count : into_iter_len l.feeder-iterator ≡ length (into_iter_items l.feeder-iterator);
  fits : vec_len l.turns + into_iter_len l.feeder-iterator ≤ vec_capacity l.turns;
  room : vec_capacity l.turns ≡ vec_capacity l.fn.turns;
}
