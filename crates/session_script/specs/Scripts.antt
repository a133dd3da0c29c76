-- A command as a script: what it is to follow one, and what one gives.
use Rattle.std.specs.Prelude.{◌≡◌, ◌⊎◌, ◌≤◌, ℕ, ◌+◌, List, [], ◌∷◌, ◌++◌, length, take, Option, Some, None, Result, Ok, Err, String, string_bytes, if◌then◌else◌}
use Rattle.std.specs.declared.alloc.Global.{Global}
use Rattle.io_traits.specs.Host.{HostState}
use Rattle.io_traits.specs.Places.{place_limit}
use Rattle.io_traits.specs.Touching.{same_place}
use Rattle.io_traits.specs.declared.host.Place.{Place}
use Rattle.io_traits.specs.declared.host.Way.{Way}
use Rattle.io_traits.specs.declared.host.Way.TheVariants as ways
use Rattle.session_script.specs.Steps.{OpeningBroke, PlaceOpened, PlaceRead, PlaceWritten, ReadingBroke, WritingBroke}
use Rattle.session_script.specs.declared.status.Status.{Status}
use Rattle.session_script.specs.declared.status.Status.TheVariants.{Memory}

-- what Screen is to get where all was done, or the status that tells why not
abbrev pub End : Type 0
End = Result (List ℕ) Status

-- the end that a command answers
abbrev pub end_of : Result (String Global) Status → End
end_of (Ok text) = Ok (string_bytes text)
end_of (Err status) = Err status

-- What a command does, in order.
pub data Script : Type 1 where
  -- binds a place to a name and reads it; what follows hangs on the octets
  reads : Place → List ℕ → (List ℕ → Script) → Script
  -- binds a place to a name, to be written
  opens : Place → List ℕ → Script → Script
  -- writes octets to a place
  writes : Place → List ℕ → Script → Script
  -- goes on by any one of these
  picks : {A : Type 0} → (A → Script) → Script
  -- has done all, or finds a fault
  ends : End → Script

-- ---- to follow a script

-- memory was wanting before the next step
abbrev pub GaveUp : End → HostState → HostState → Type 0
GaveUp end old new = (end ≡ Err Memory) × (old ≡ new)

-- a step broke off with this status
abbrev pub Breaks : End → (Status → Type 0) → Type 0
Breaks (Ok text) why = ⊥
Breaks (Err status) why = why status

-- A run followed the script from old to new and came to this end: each step was done behind all before it, up to the last, or up to one that broke off.
unfoldable pub Follows : Script → End → HostState → HostState → Type 0
Follows (reads place name next) end old new = GaveUp end old new ⊎ (Breaks end (λ s. ReadingBroke place name s old new) ⊎ ((octets : List ℕ) × (mid : HostState) × PlaceRead place name octets old mid × Follows (next octets) end mid new))
Follows (opens place name next) end old new = GaveUp end old new ⊎ (Breaks end (λ s. OpeningBroke place name s old new) ⊎ ((mid : HostState) × PlaceOpened place name old mid × Follows next end mid new))
Follows (writes place octets next) end old new = GaveUp end old new ⊎ (Breaks end (λ s. WritingBroke place octets s old new) ⊎ ((mid : HostState) × PlaceWritten place octets old mid × Follows next end mid new))
Follows (picks {A} next) end old new = GaveUp end old new ⊎ ((a : A) × Follows (next a) end old new)
Follows (ends it) end old new = GaveUp end old new ⊎ ((end ≡ it) × (old ≡ new))

-- ---- what a script gives

-- a place, what it is bound for, and its name
abbrev pub Binding : Type 0
Binding = Place × Way × List ℕ

-- what is read of octets: all, or one octet past the limit
abbrev pub read_of : List ℕ → List ℕ
read_of octets = take (place_limit + 1) octets

-- no place gets anything
abbrev pub GetsNothing : (Place → List ℕ) → Type 0
GetsNothing gets = (p : Place) → gets p ≡ []

-- octets for this place, and for the others none
abbrev pub piece_for : Place → List ℕ → Place → List ℕ
piece_for place octets p = if same_place p place then octets else []

-- the place gets these octets first, and then all get the rest
abbrev pub GetsFirst : Place → List ℕ → (Place → List ℕ) → (Place → List ℕ) → Type 0
GetsFirst place octets rest gets = (p : Place) → gets p ≡ piece_for place octets p ++ rest p

-- broken off here
pub record StopsHere (bound : List Binding) (gets : Place → List ℕ) (stop : Option End) : Type 0 where
  pub unbound : bound ≡ []
  pub nothing : GetsNothing gets
  pub broken : stop ≡ None

-- broken off while these octets are written
pub record StopsWriting (place : Place) (octets : List ℕ) (bound : List Binding) (gets : Place → List ℕ) (stop : Option End) : Type 0 where
  pub n : ℕ
  pub within : n ≤ length octets
  pub unbound : bound ≡ []
  pub part : (p : Place) → gets p ≡ piece_for place (take n octets) p
  pub broken : stop ≡ None

-- What a script gives, where the places hold this: which places it binds, in order, what each place gets, and its end; or how far it came where it is broken off, which tells no end.
unfoldable pub Gives : Script → (Place → List ℕ → Type 0) → List Binding → (Place → List ℕ) → Option End → Type 0
Gives (reads place name next) holds bound gets stop = StopsHere bound gets stop ⊎ ((octets : List ℕ) × holds place octets × (rest : List Binding) × (bound ≡ (place, ways.Read, name) ∷ rest) × Gives (next (read_of octets)) holds rest gets stop)
Gives (opens place name next) holds bound gets stop = StopsHere bound gets stop ⊎ ((rest : List Binding) × (bound ≡ (place, ways.Write, name) ∷ rest) × Gives next holds rest gets stop)
Gives (writes place octets next) holds bound gets stop = StopsWriting place octets bound gets stop ⊎ ((rest : Place → List ℕ) × GetsFirst place octets rest gets × Gives next holds bound rest stop)
Gives (picks {A} next) holds bound gets stop = StopsHere bound gets stop ⊎ ((a : A) × Gives (next a) holds bound gets stop)
Gives (ends it) holds bound gets stop = StopsHere bound gets stop ⊎ ((bound ≡ []) × GetsNothing gets × (stop ≡ Some it))
