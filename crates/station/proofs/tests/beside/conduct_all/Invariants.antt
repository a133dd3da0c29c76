use Rattle.std.proofs.Common.{◌+◌}
use Rattle.station.specs.Tests.{PublishesNone}
use Rattle.station.proofs.tests.beside.conduct_all.Given as goal

abbrev pub invariant-loop-turn : goal.invariant-loop-turn
invariant-loop-turn g l = PublishesNone l.station l.settings 4608000 l.conductor (l.turn + 1)
