use Rattle.std.proofs.Common.{◌≡◌}
use Rattle.station.specs.Tokens.{IsFeederOf, IsSubscriberOf}
use Rattle.live_picture.proofs.tests.sites.serve.Given as goal

abbrev pub invariant-loop-aircraft : goal.invariant-loop-aircraft
invariant-loop-aircraft g l = record {
  feeder : IsFeederOf l.station l.site.0;
  subscriber : IsSubscriberOf l.station l.site.1;
  feed : l.site.0.feed ≡ l.fn.site.0.feed;
  reader : l.site.1.reader ≡ l.fn.site.1.reader;
}
