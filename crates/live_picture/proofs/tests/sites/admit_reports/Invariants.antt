use Rattle.std.proofs.Common.{◌≡◌}
use Rattle.station.specs.Tokens.{IsFeederOf}
use Rattle.live_picture.proofs.tests.sites.admit_reports.Given as goal

abbrev pub invariant-loop-place : goal.invariant-loop-place
invariant-loop-place g l = record {
  own : IsFeederOf l.station l.feeder;
  same : l.feeder.feed ≡ l.fn.feeder.feed;
}
