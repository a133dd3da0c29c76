use Rattle.std.proofs.Common.{◌≡◌, ◌≤◌, ◌+◌, ◌++◌, All, map, length, vec_len, vec_capacity}
use Rattle.std.specs.List.{range_with_len}
use Rattle.std.specs.Vec.Iter.{into_iter_items, into_iter_len}
use Rattle.station.specs.Tokens.{HasAddedNone}
use Rattle.station.proofs.station.opening.deal_feeders.Given as goal

abbrev pub invariant-loop-feed : goal.invariant-loop-feed
invariant-loop-feed l = record {
  turns : map (λ x. x.turn) l.feeders.items ++ into_iter_items l.turns ≡ into_iter_items l.fn.turns;
  named : map (λ x. x.feed) l.feeders.items ≡ range_with_len 0 l.feed;
  count : into_iter_len l.turns ≡ length (into_iter_items l.turns);
  left : into_iter_len l.turns + l.feed ≡ into_iter_len l.fn.turns;
  newcomers : All HasAddedNone (into_iter_items l.turns);
  room : (vec_len l.feeders ≡ l.feed) × (l.feeds ≤ vec_capacity l.feeders);
}
