-- What Screen gets of the end of a command, and which status comes.
use Rattle.std.specs.Prelude.{◌≡◌, ◌⊎◌, ◌≤◌, ℕ, List, ◌++◌, length, take, Ok, Err}
use Rattle.io_traits.specs.Host.{HostState}
use Rattle.io_traits.specs.Places.{Got, GotPrefix, HasFailed}
use Rattle.io_traits.specs.declared.host.Place.TheVariants as places
use Rattle.session_script.specs.Screen.{status_line}
use Rattle.session_script.specs.Scripts.{End}
use Rattle.session_script.specs.declared.status.Spot.TheVariants as spots
use Rattle.session_script.specs.declared.status.Status.{Status}
use Rattle.session_script.specs.declared.status.Status.TheVariants.{Done, Write, Memory}

-- Screen got this text; or, where it failed, a prefix of it.
abbrev pub Told : List ℕ → HostState → HostState → Type 0
Told text old new = Got places.Screen old new text ⊎ (GotPrefix places.Screen old new text × HasFailed places.Screen old new)

-- Screen failed: it got a prefix of the text, and then the text of that, or a prefix of it.
pub record ToldAfter (text : List ℕ) (old new : HostState) : Type 0 where
  pub failed : HasFailed places.Screen old new
  pub n : ℕ
  pub m : ℕ
  pub within : n ≤ length text
  pub within_status : m ≤ length (status_line (Write spots.Screen))
  pub got : Got places.Screen old new (take n text ++ take m (status_line (Write spots.Screen)))

-- all was done, and Screen got all of the text; or it failed in that
abbrev pub SaysDone : List ℕ → Status → HostState → HostState → Type 0
SaysDone text status old new = ((status ≡ Done) × Got places.Screen old new text × (new.faults places.Screen ≡ old.faults places.Screen)) ⊎ ((status ≡ Write spots.Screen) × ToldAfter text old new)

abbrev pub Says : End → Status → HostState → HostState → Type 0
Says (Ok text) status old new = SaysDone text status old new
Says (Err why) status old new = ((status ≡ why) ⊎ (status ≡ Memory)) × Told (status_line status) old new
