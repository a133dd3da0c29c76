-- What the command `scene` does, and what it gives.
use Rattle.std.specs.Prelude.{◌≡◌, ◌⊎◌, ◌≤◌, ℕ, List, [], ◌∷◌, ◌++◌, codes, length, take, Option, Some, None, Ok}
use Rattle.std.specs.Fmt.{decimal}
use Rattle.io_traits.specs.declared.host.Place.{Place}
use Rattle.io_traits.specs.declared.host.Place.TheVariants as places
use Rattle.io_traits.specs.declared.host.Way.TheVariants as ways
use Rattle.scene_gen.specs.Scenes.{scene}
use Rattle.session_script.specs.Scripts.{Binding, End, GetsNothing, Script, ends, opens, piece_for, writes}

-- the line of a recording of so many octets
abbrev pub scene_line : ℕ → List ℕ
scene_line count = codes "octets " ++ (decimal count ++ codes "\n")

-- It opens Output, and writes the recording of the scene.
abbrev pub recording_script : List ℕ → List ℕ → Script
recording_script octets output = opens places.Output output (writes places.Output octets (ends (Ok (scene_line (length octets)))))

abbrev pub scene_script : ℕ → ℕ → ℕ → ℕ → List ℕ → Script
scene_script seed aircraft seconds late output = recording_script (scene seed aircraft seconds late) output

-- Output, with its name
abbrev pub output_bound : List ℕ → List Binding
output_bound output = (places.Output, ways.Write, output) ∷ []

-- Output gets the recording, and the end tells how long it is.
pub record IsWritten (octets output : List ℕ) (bound : List Binding) (gets : Place → List ℕ) (stop : Option End) : Type 0 where
  pub bound_is : bound ≡ output_bound output
  pub got : (p : Place) → gets p ≡ piece_for places.Output octets p
  pub end_is : stop ≡ Some (Ok (scene_line (length octets)))

-- It broke off: Output may be bound, and got no more than a prefix.
pub record IsWrittenPartly (octets output : List ℕ) (bound : List Binding) (gets : Place → List ℕ) (stop : Option End) : Type 0 where
  pub bound_is : (bound ≡ []) ⊎ (bound ≡ output_bound output)
  pub n : ℕ
  pub within : n ≤ length octets
  pub part : (p : Place) → gets p ≡ piece_for places.Output (take n octets) p
  pub unopened : bound ≡ [] → GetsNothing gets
  pub broken : stop ≡ None

abbrev pub RecordingGives : List ℕ → List ℕ → List Binding → (Place → List ℕ) → Option End → Type 0
RecordingGives octets output bound gets stop = IsWritten octets output bound gets stop ⊎ IsWrittenPartly octets output bound gets stop

abbrev pub SceneGives : ℕ → ℕ → ℕ → ℕ → List ℕ → List Binding → (Place → List ℕ) → Option End → Type 0
SceneGives seed aircraft seconds late output bound gets stop = RecordingGives (scene seed aircraft seconds late) output bound gets stop
