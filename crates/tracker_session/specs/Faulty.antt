-- Datagrams with a fault.
use Rattle.std.specs.Prelude.{◌≡◌, ◌⊎◌, ℕ, ◌+◌, List, [], ◌∷◌}
use Rattle.asterix_frame.specs.Datagrams.{Content, IsDatagram}
use Rattle.recording.specs.Items.{Item, datagram, tick, bias}
use Rattle.tracker_session.specs.Replay.{HasFault}

-- so many of the items are datagrams with a fault
abbrev pub HaveFaults : List Item → ℕ → Type 0
HaveFaults [] n = n ≡ 0
HaveFaults (tick time ∷ items) n = HaveFaults items n
HaveFaults (bias radar slot b ∷ items) n = HaveFaults items n
HaveFaults (datagram feed octets ∷ items) n = ((contents : List Content) × IsDatagram octets contents × HaveFaults items n) ⊎ (HasFault octets × (m : ℕ) × (n ≡ m + 1) × HaveFaults items m)
