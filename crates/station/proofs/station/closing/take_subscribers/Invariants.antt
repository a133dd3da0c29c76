use Rattle.std.proofs.Common.{◌≡◌, ◌≤◌, ◌+◌, ◌++◌, map, length, vec_len, vec_capacity}
use Rattle.std.specs.Vec.Iter.{into_iter_items, into_iter_len}
use Rattle.station.proofs.station.closing.take_subscribers.Given as goal

abbrev pub invariant-loop-subscriber : goal.invariant-loop-subscriber
invariant-loop-subscriber l = record {
  all : l.turns.items ++ map (λ x. x.turn) (into_iter_items l.subscriber-iterator) ≡ l.fn.turns.items ++ map (λ x. x.turn) l.fn.subscribers.items;
  count : into_iter_len l.subscriber-iterator ≡ length (into_iter_items l.subscriber-iterator);
  fits : vec_len l.turns + into_iter_len l.subscriber-iterator ≤ vec_capacity l.turns;
  room : vec_capacity l.turns ≡ vec_capacity l.fn.turns;
}
