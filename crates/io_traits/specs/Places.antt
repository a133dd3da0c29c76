-- What a place had, and what it got, over a run.
use Rattle.std.specs.Prelude.{◌≡◌, ◌≤◌, ℕ, ◌+◌, List, length, take, Some}
use Rattle.std.specs.Io.KnownBytes.{Appends, Consumes}
use Rattle.io_traits.specs.Faults.{Rose}
use Rattle.io_traits.specs.Host.{HostState, IsEmpty}
use Rattle.io_traits.specs.declared.host.Place.{Place}

-- so many octets of a place are read; and one more, which tells that there are more
abbrev pub place_limit : ℕ
place_limit = 1073741824

-- the place has these octets left, where the host tells them
abbrev pub Has : Place → HostState → List ℕ → Type 0
Has place host octets = host.left place ≡ Some octets

-- the place got exactly these octets; or a prefix of them
abbrev pub Got : Place → HostState → HostState → List ℕ → Type 0
Got place old new octets = Appends (old.got place) (new.got place) octets

abbrev pub GotPrefix : Place → HostState → HostState → List ℕ → Type 0
GotPrefix place old new octets = (n : ℕ) × (n ≤ length octets) × Got place old new (take n octets)

-- the place has failed; or no place has
abbrev pub HasFailed : Place → HostState → HostState → Type 0
HasFailed place old new = Rose (old.faults place) (new.faults place)

abbrev pub NoneFailed : HostState → HostState → Type 0
NoneFailed old new = (p : Place) → new.faults p ≡ old.faults p

-- These octets were read of the place: all that it had left, or one octet past the limit.
pub record WasRead (place : Place) (octets : List ℕ) (old new : HostState) : Type 0 where
  pub taken : Consumes (old.left place) (new.left place) octets
  pub within : length octets ≤ place_limit + 1
  pub whole : length octets ≤ place_limit → IsEmpty (new.left place)
  pub kept : new.faults place ≡ old.faults place
