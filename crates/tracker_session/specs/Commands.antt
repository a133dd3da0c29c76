-- The script of each line, and what it gives.
use Rattle.std.specs.Prelude.{◌≡◌, ◌⊎◌, ℕ, List, [], Option, Some, None, Err}
use Rattle.io_traits.specs.declared.host.Place.{Place}
use Rattle.session_script.specs.Scripts.{Binding, End, GetsNothing, Script, ends}
use Rattle.session_script.specs.declared.status.Status.TheVariants.{Usage}
use Rattle.tracker_session.specs.Check.{CheckGives, check_script}
use Rattle.tracker_session.specs.Exercise.{ExerciseGives, exercise_script}
use Rattle.tracker_session.specs.ReplayGives.{ReplayGives}
use Rattle.tracker_session.specs.ReplayScript.{replay_script}
use Rattle.tracker_session.specs.Scene.{SceneGives, scene_script}
use Rattle.tracker_session.specs.Words.{Line, replay, check, scene, exercise, other}

abbrev pub script_of : Line → Script
script_of (replay settings input output prices workers) = replay_script settings input output prices
script_of (check prices) = check_script prices
script_of (scene seed aircraft seconds late output) = scene_script seed aircraft seconds late output
script_of (exercise seed aircraft seconds late workers) = exercise_script seed aircraft seconds late
script_of other = ends (Err Usage)

-- Other words are refused, unless memory is wanting: nothing is bound and no file gets anything.
pub record IsRefusal (bound : List Binding) (gets : Place → List ℕ) (stop : Option End) : Type 0 where
  pub unbound : bound ≡ []
  pub nothing : GetsNothing gets
  pub end_is : (stop ≡ Some (Err Usage)) ⊎ (stop ≡ None)

-- What a line gives, where the places hold this: which places are bound, in order, what each gets, and its end; or none, where it broke off.
abbrev pub CommandGives : Line → (Place → List ℕ → Type 0) → List Binding → (Place → List ℕ) → Option End → Type 0
CommandGives (replay settings input output prices workers) holds bound gets stop = ReplayGives settings input output prices holds bound gets stop
CommandGives (check prices) holds bound gets stop = CheckGives prices holds bound gets stop
CommandGives (scene seed aircraft seconds late output) holds bound gets stop = SceneGives seed aircraft seconds late output bound gets stop
CommandGives (exercise seed aircraft seconds late workers) holds bound gets stop = ExerciseGives seed aircraft seconds late bound gets stop
CommandGives other holds bound gets stop = IsRefusal bound gets stop
