use Rattle.std.proofs.Common.{◌≡◌, ◌+◌, ◌-◌, ◌≤◌, vec_len, vec_capacity}
use Rattle.turn_lock.proofs.Dealing.{IsDealt}
use Rattle.turn_lock.proofs.lock.seats.deal.Given as goal

abbrev pub invariant-loop-left : goal.invariant-loop-left
invariant-loop-left g l = record {
  same : l.seat.table_id ≡ l.fn.seat.table_id;
  room : (vec_len l.turns + l.left ≡ l.seats) × (l.seats ≤ vec_capacity l.turns);
  dealt : IsDealt l.fn.seat.table_id l.fn.seat.me.0.base l.seats l.left l.turns.items l.seat.me;
}

abbrev pub decreases-loop-left : goal.decreases-loop-left
decreases-loop-left g l = l.left - 1
