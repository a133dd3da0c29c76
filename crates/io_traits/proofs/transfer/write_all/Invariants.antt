use Rattle.std.proofs.Common.{◌≡◌, ◌≢◌, ◌-◌, ◌≤◌, [], ◌∷◌, length, take}
use Rattle.io_traits.specs.Host.{IsBoundFor}
use Rattle.io_traits.specs.Places.{Got}
use Rattle.io_traits.specs.Touching.{Touches}
use Rattle.io_traits.specs.declared.host.Place.{Place}
use Rattle.io_traits.specs.declared.host.Way.{Way}
use Rattle.io_traits.proofs.transfer.write_all.Given as goal

abbrev pub invariant-loop-written : goal.invariant-loop-written
invariant-loop-written g l =
    let state = g.H.Host.state in
    record {
      within : l.written ≤ length l.octets;
      bound : l.place ≢ Place.Screen → IsBoundFor Way.Write (state l.host) l.place;
      got_here : Got l.place (state l.fn.host) (state l.host) (take l.written l.octets);
      faults_here : (state l.host).faults l.place ≡ (state l.fn.host).faults l.place;
      touches : Touches [] [] (l.place ∷ []) (state l.fn.host) (state l.host);
    }

abbrev pub decreases-loop-written : goal.decreases-loop-written
decreases-loop-written g l = length l.octets - l.written
