-- How a call ended that follows a script and tells its end.
use Rattle.std.specs.Prelude.{◌≡◌, ◌≢◌, ◌⊎◌, ◌≤◌, ⊤, ℕ, List, [], ◌∷◌, ◌++◌, length, IsTrue, Option, Some, None, Ok, Err}
use Rattle.io_traits.specs.Host.{HostState, IsEmpty}
use Rattle.io_traits.specs.Places.{Got, Has, HasFailed, place_limit}
use Rattle.io_traits.specs.Touching.{Touches, is_in}
use Rattle.io_traits.specs.declared.host.Place.{Place}
use Rattle.io_traits.specs.declared.host.Place.TheVariants as places
use Rattle.io_traits.specs.declared.host.Way.TheVariants as ways
use Rattle.session_script.specs.Screen.{status_line}
use Rattle.session_script.specs.Scripts.{Binding, End, Follows, Script}
use Rattle.session_script.specs.Status.{spot_of}
use Rattle.session_script.specs.Telling.{Says, SaysDone, Told}
use Rattle.session_script.specs.declared.status.Spot.TheVariants as spots
use Rattle.session_script.specs.declared.status.Status.{Status}
use Rattle.session_script.specs.declared.status.Status.TheVariants.{Done, Read, Write, Memory}

-- The script was followed, and then Screen got what it ended with.
pub record Ended (script : Script) (status : Status) (old new : HostState) : Type 0 where
  pub end : End
  pub mid : HostState
  pub follows : Follows script end old mid
  pub says : Says end status mid new
  pub screen : Touches [] [] (places.Screen ∷ []) mid new

-- ---- the places of bindings

abbrev pub places_of : List Binding → List Place
places_of [] = []
places_of ((place, way, name) ∷ rest) = place ∷ places_of rest

-- those that are bound to be read
abbrev pub read_in : List Binding → List Place
read_in [] = []
read_in ((place, ways.Read, name) ∷ rest) = place ∷ read_in rest
read_in ((place, ways.Write, name) ∷ rest) = read_in rest

-- those that are bound to be written
abbrev pub written_in : List Binding → List Place
written_in [] = []
written_in ((place, ways.Read, name) ∷ rest) = written_in rest
written_in ((place, ways.Write, name) ∷ rest) = place ∷ written_in rest

-- each of these is bound, for its way and to its name
abbrev pub AllBound : List Binding → HostState → Type 0
AllBound [] host = ⊤
AllBound ((place, way, name) ∷ rest) host = (host.bound place ≡ Some (way, name)) × AllBound rest host

-- A place to be read was read to its end, or past the limit, and didn't fail.
abbrev pub Passed : Binding → HostState → HostState → Type 0
Passed (place, ways.Read, name) old new = (new.faults place ≡ old.faults place) × ((octets : List ℕ) → Has place old octets → length octets ≤ place_limit → IsEmpty (new.left place))
Passed (place, ways.Write, name) old new = ⊤

abbrev pub AllPassed : List Binding → HostState → HostState → Type 0
AllPassed [] old new = ⊤
AllPassed (binding ∷ rest) old new = Passed binding old new × AllPassed rest old new

-- all but the last
abbrev pub OthersPassed : List Binding → HostState → HostState → Type 0
OthersPassed [] old new = ⊤
OthersPassed (binding ∷ []) old new = ⊤
OthersPassed (binding ∷ next ∷ rest) old new = Passed binding old new × OthersPassed (next ∷ rest) old new

-- a run that came to an end has read all, and one that broke off all but the last, which was then bound
abbrev pub ArePassed : Option End → List Binding → HostState → HostState → Type 0
ArePassed (Some end) bound old new = AllPassed bound old new
ArePassed None bound old new = OthersPassed bound old new

-- These are the bindings that were made. No other place was bound, none but these and Screen was written, and none but those to be read was read.
pub record Binds (bound : List Binding) (stop : Option End) (old new : HostState) : Type 0 where
  pub all : AllBound bound new
  pub passed : ArePassed stop bound old new
  pub touches : Touches (places_of bound) (read_in bound) (places.Screen ∷ written_in bound) old new

-- ---- why it ended

-- no place but Screen has failed
abbrev pub FilesKept : HostState → HostState → Type 0
FilesKept old new = (p : Place) → p ≢ places.Screen → new.faults p ≡ old.faults p

-- the status tells a place that was being read: the last that was bound
abbrev pub TellsReading : Place → List Binding → Status → Type 0
TellsReading p bound status = (status ≡ Read (spot_of p)) × (before : List Binding) × (name : List ℕ) × (bound ≡ before ++ (p, ways.Read, name) ∷ [])

-- the status tells a place that was bound to be written
abbrev pub TellsWriting : Place → List Binding → Status → Type 0
TellsWriting p bound status = (status ≡ Write (spot_of p)) × IsTrue (is_in (written_in bound) p)

-- Memory is wanting, or a file failed that was being read or was to be written, and the status tells it.
abbrev pub BrokeOff : List Binding → Status → HostState → HostState → Type 0
BrokeOff bound status old new = (status ≡ Memory) ⊎ ((p : Place) × (p ≢ places.Screen) × HasFailed p old new × (TellsReading p bound status ⊎ TellsWriting p bound status))

-- The status and Screen say how it ended: by the end, or that it broke off before.
abbrev pub EndsSo : Option End → List Binding → Status → HostState → HostState → Type 0
EndsSo (Some (Ok text)) bound status old new = FilesKept old new × SaysDone text status old new
EndsSo (Some (Err why)) bound status old new = FilesKept old new × ((status ≡ why) ⊎ (status ≡ Memory)) × Told (status_line status) old new
EndsSo None bound status old new = BrokeOff bound status old new × Told (status_line status) old new

-- The places held something of which the command gives this: these bindings were made, each file got exactly that, and so it ended.
pub record ComesTo (gives : List Binding → (Place → List ℕ) → Option End → Type 0) (status : Status) (old new : HostState) : Type 0 where
  pub bound : List Binding
  pub gets : Place → List ℕ
  pub stop : Option End
  pub given : gives bound gets stop
  pub binds : Binds bound stop old new
  pub got : (p : Place) → p ≢ places.Screen → Got p old new (gets p)
  pub so : EndsSo stop bound status old new

-- the place holds these octets, where the host tells it
abbrev pub MayHold : HostState → Place → List ℕ → Type 0
MayHold host place octets = (told : List ℕ) → Has place host told → octets ≡ told

-- ---- where nothing failed

-- the status of an end, also where Screen fails
abbrev pub IsStatusOf : End → Status → Type 0
IsStatusOf (Ok text) status = (status ≡ Done) ⊎ (status ≡ Write spots.Screen)
IsStatusOf (Err why) status = status ≡ why

-- The status is that of the command's end on what the places held.
pub record IsForetold (gives : List Binding → (Place → List ℕ) → Option End → Type 0) (status : Status) : Type 0 where
  pub bound : List Binding
  pub gets : Place → List ℕ
  pub end : End
  pub given : gives bound gets (Some end)
  pub is : IsStatusOf end status
