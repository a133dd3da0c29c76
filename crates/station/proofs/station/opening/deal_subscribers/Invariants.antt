use Rattle.std.proofs.Common.{◌≡◌, ◌≤◌, ◌+◌, ◌++◌, All, map, length, vec_len, vec_capacity}
use Rattle.std.specs.List.{range_with_len}
use Rattle.std.specs.Vec.Iter.{into_iter_items, into_iter_len}
use Rattle.station.specs.Tokens.{HasAddedNone}
use Rattle.station.proofs.station.opening.deal_subscribers.Given as goal

abbrev pub invariant-loop-reader : goal.invariant-loop-reader
invariant-loop-reader l = record {
  turns : map (λ x. x.turn) l.subscribers.items ++ into_iter_items l.turns ≡ into_iter_items l.fn.turns;
  named : map (λ x. x.reader) l.subscribers.items ≡ range_with_len 0 l.reader;
  count : into_iter_len l.turns ≡ length (into_iter_items l.turns);
  left : into_iter_len l.turns + l.reader ≡ into_iter_len l.fn.turns;
  newcomers : All HasAddedNone (into_iter_items l.turns);
  room : (vec_len l.subscribers ≡ l.reader) × (l.readers ≤ vec_capacity l.subscribers);
  numbers : All (λ x. x.number ≡ 0) l.subscribers.items;
}
