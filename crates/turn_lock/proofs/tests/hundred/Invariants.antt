use Rattle.std.proofs.Common.{◌≡◌}
use Rattle.turn_lock.specs.Turns.{IsTurnOf}
use Rattle.turn_lock.proofs.tests.hundred.Given as goal

abbrev pub invariant-loop-number : goal.invariant-loop-number
invariant-loop-number g l = record {
  own : IsTurnOf l.lock l.turn;
  same : l.turn.number ≡ l.fn.turn.number;
}
