use Rattle.std.proofs.Common.{◌≡◌, ◌-◌, ◌≤◌, [], ◌∷◌, vec_len}
use Rattle.std.specs.Io.KnownBytes.{Consumes}
use Rattle.io_traits.specs.Host.{IsBoundFor}
use Rattle.io_traits.specs.Touching.{Touches}
use Rattle.io_traits.specs.declared.host.Way.{Way}
use Rattle.io_traits.proofs.transfer.read_all.Given as goal

abbrev pub invariant-pieces : goal.invariant-pieces
invariant-pieces g l =
    let state = g.H.Host.state in
    record {
      bound : IsBoundFor Way.Read (state l.host) l.place;
      taken : Consumes ((state l.fn.host).left l.place) ((state l.host).left l.place) l.octets.items;
      within : vec_len l.octets ≤ 1073741825;
      faults_here : (state l.host).faults l.place ≡ (state l.fn.host).faults l.place;
      touches : Touches [] (l.place ∷ []) [] (state l.fn.host) (state l.host);
    }

abbrev pub decreases-pieces : goal.decreases-pieces
decreases-pieces g l = 1073741825 - vec_len l.octets
