use Rattle.std.proofs.Common.{◌≡◌}
use Rattle.station.specs.Tokens.{IsFeederOf}
use Rattle.station.proofs.tests.beside.admit_all.Given as goal

abbrev pub invariant-loop : goal.invariant-loop
invariant-loop g l = record {
  own : IsFeederOf l.station l.feeder;
  same : l.feeder.feed ≡ l.fn.feeder.feed;
}
