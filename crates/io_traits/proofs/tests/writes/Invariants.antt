use Rattle.std.proofs.Common.{◌≢◌}
use Rattle.io_traits.specs.Host.{IsBoundFor}
use Rattle.io_traits.specs.declared.host.Place.{Place}
use Rattle.io_traits.specs.declared.host.Way.{Way}
use Rattle.io_traits.proofs.tests.writes.Given as goal

abbrev pub invariant-loop-piece : goal.invariant-loop-piece
invariant-loop-piece g l = l.place ≢ Place.Screen → IsBoundFor Way.Write (g.H.Host.state l.host) l.place
