-- What one step of a command does to its place.
use Rattle.std.specs.Prelude.{◌≡◌, ◌≢◌, ◌⊎◌, ℕ, List, [], ◌∷◌, Some, None}
use Rattle.io_traits.specs.Host.{HostState, IsBoundFor}
use Rattle.io_traits.specs.Places.{Got, GotPrefix, HasFailed, WasRead}
use Rattle.io_traits.specs.Touching.{Touches}
use Rattle.io_traits.specs.declared.host.Place.{Place}
use Rattle.io_traits.specs.declared.host.Place.TheVariants as places
use Rattle.io_traits.specs.declared.host.Way.TheVariants as ways
use Rattle.session_script.specs.Status.{spot_of}
use Rattle.session_script.specs.declared.status.Status.{Status}
use Rattle.session_script.specs.declared.status.Status.TheVariants.{Read, Write, Memory}

-- The place is a file, and wasn't bound yet.
pub record IsFresh (place : Place) (old : HostState) : Type 0 where
  pub file : place ≢ places.Screen
  pub unbound : old.bound place ≡ None

-- The place was bound to the name, and these octets were read of it: to its end, or one octet past the limit.
pub record PlaceRead (place : Place) (name octets : List ℕ) (old new : HostState) : Type 0 where
  pub fresh : IsFresh place old
  pub bound : new.bound place ≡ Some (ways.Read, name)
  pub read : WasRead place octets old new
  pub touches : Touches (place ∷ []) (place ∷ []) [] old new

-- Reading it broke off: it failed, or memory is wanting.
pub record ReadingBroke (place : Place) (name : List ℕ) (status : Status) (old new : HostState) : Type 0 where
  pub fresh : IsFresh place old
  pub bound : new.bound place ≡ Some (ways.Read, name)
  pub cause : ((status ≡ Read (spot_of place)) × HasFailed place old new) ⊎ (status ≡ Memory)
  pub touches : Touches (place ∷ []) (place ∷ []) [] old new

-- The place was bound to the name, to be written.
pub record PlaceOpened (place : Place) (name : List ℕ) (old new : HostState) : Type 0 where
  pub fresh : IsFresh place old
  pub bound : new.bound place ≡ Some (ways.Write, name)
  pub kept : new.faults place ≡ old.faults place
  pub touches : Touches (place ∷ []) [] [] old new

-- Opening it broke off: it failed.
pub record OpeningBroke (place : Place) (name : List ℕ) (status : Status) (old new : HostState) : Type 0 where
  pub fresh : IsFresh place old
  pub bound : new.bound place ≡ Some (ways.Write, name)
  pub told : status ≡ Write (spot_of place)
  pub failed : HasFailed place old new
  pub touches : Touches (place ∷ []) [] [] old new

-- The place, which was open, got these octets.
pub record PlaceWritten (place : Place) (octets : List ℕ) (old new : HostState) : Type 0 where
  pub opened : IsBoundFor ways.Write old place
  pub got : Got place old new octets
  pub kept : new.faults place ≡ old.faults place
  pub touches : Touches [] [] (place ∷ []) old new

-- Writing broke off: the place failed, and got a prefix of them.
pub record WritingBroke (place : Place) (octets : List ℕ) (status : Status) (old new : HostState) : Type 0 where
  pub opened : IsBoundFor ways.Write old place
  pub got : GotPrefix place old new octets
  pub told : status ≡ Write (spot_of place)
  pub failed : HasFailed place old new
  pub touches : Touches [] [] (place ∷ []) old new
