use Rattle.std.proofs.Common.{◌≡◌, All}
use Rattle.turn_lock.proofs.Gathering.{IsGathering}
use Rattle.turn_lock.proofs.lock.seats.gather.Given as goal

abbrev pub invariant-loop-turn : goal.invariant-loop-turn
invariant-loop-turn g l = record {
  same : l.seat.table_id ≡ l.lock_table.table.shared.table_id;
  own : All (λ t. t.table ≡ l.lock_table.table.shared.table_id) l.turns.items;
  gathering : IsGathering l.turns.items l.fn.turns.items l.seat.me;
}

abbrev pub decreases-loop-turn : goal.decreases-loop-turn
decreases-loop-turn g l = goal.left-loop-turn g l
