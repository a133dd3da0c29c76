use Rattle.std.proofs.Common.{◌≡◌}
use Rattle.station.specs.Tokens.{IsSubscriberOf}
use Rattle.live_picture.proofs.tests.sites.await_news.Given as goal

abbrev pub invariant-loop : goal.invariant-loop
invariant-loop l = record {
  own : IsSubscriberOf l.station l.subscriber;
  same : l.subscriber.reader ≡ l.fn.subscriber.reader;
}
