use Rattle.std.proofs.Common.{◌∷◌, []}
use Rattle.io_traits.specs.Host.{IsBoundFor}
use Rattle.io_traits.specs.Touching.{Touches}
use Rattle.io_traits.specs.declared.host.Way.{Way}
use Rattle.io_traits.proofs.tests.reads.Given as goal

abbrev pub invariant-loop-answer : goal.invariant-loop-answer
invariant-loop-answer g l =
    let state = g.H.Host.state in
    record {
      bound : IsBoundFor Way.Read (state l.host) l.place;
      touches : Touches [] (l.place ∷ []) [] (state l.fn.host) (state l.host);
    }
