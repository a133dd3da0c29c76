use Rattle.station.specs.Tokens.{IsFeederOf, IsConductorOf}
use Rattle.station.proofs.tests.take_turns.Given as goal

abbrev pub invariant-loop-tod : goal.invariant-loop-tod
invariant-loop-tod g l = record {
  feeder : IsFeederOf l.station l.feeder;
  conductor : IsConductorOf l.station l.conductor;
}
