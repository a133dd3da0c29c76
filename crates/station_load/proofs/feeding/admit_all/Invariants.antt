use Rattle.station.specs.Tokens.{IsFeederOf}
use Rattle.station_load.proofs.feeding.admit_all.Given as goal

abbrev pub invariant-loop : goal.invariant-loop
invariant-loop g l = IsFeederOf l.station l.feeder
