use Rattle.std.proofs.Common.{◌≡◌}
use Rattle.turn_lock.specs.Turns.{IsTurnOf}
use Rattle.turn_lock.proofs.tests.watch.Given as goal

abbrev pub invariant-loop : goal.invariant-loop
invariant-loop l = record {
  own : IsTurnOf l.lock l.turn;
  same : l.turn.number ≡ l.fn.turn.number;
}
