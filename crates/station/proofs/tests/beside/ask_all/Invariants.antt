use Rattle.std.proofs.Common.{◌≡◌}
use Rattle.station.specs.Tokens.{IsSubscriberOf}
use Rattle.station.proofs.tests.beside.ask_all.Given as goal

abbrev pub invariant-loop : goal.invariant-loop
invariant-loop g l = record {
  own : IsSubscriberOf l.station l.subscriber;
  same : l.subscriber.reader ≡ l.fn.subscriber.reader;
}
