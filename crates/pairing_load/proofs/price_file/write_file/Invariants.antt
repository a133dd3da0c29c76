use Rattle.std.proofs.Common.{◌≡◌, [], ◌∷◌}
use Rattle.io_traits.specs.Host.{IsBoundFor}
use Rattle.io_traits.specs.Touching.{Touches}
use Rattle.io_traits.specs.declared.host.Place.{Place}
use Rattle.io_traits.specs.declared.host.Way.{Way}
use Rattle.pairing_load.proofs.Filing.{Progress}
use Rattle.pairing_load.proofs.price_file.write_file.Given as goal

abbrev pub invariant-loop-number : goal.invariant-loop-number
invariant-loop-number g l =
    let state = g.H.Host.state in
    record {
      bound : IsBoundFor Way.Write (state l.host) Place.Output;
      progress : Progress l.fn.load.seed l.number l.generator (state l.fn.host) (state l.host);
      faults : (state l.host).faults Place.Output ≡ (state l.fn.host).faults Place.Output;
      others : Touches [] [] (Place.Output ∷ []) (state l.fn.host) (state l.host);
    }
