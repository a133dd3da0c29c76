-- What the command `exercise` does, and what it gives: a scene is replayed under its settings, and its output is counted and not kept.
use Rattle.std.specs.Prelude.{◌≡◌, ◌⊎◌, ℕ, false, List, [], ◌++◌, Option, Some, None, Ok}
use Rattle.io_traits.specs.declared.host.Place.{Place}
use Rattle.recording.specs.Items.{Item}
use Rattle.admission_log.specs.declared.settings.Settings.{Settings}
use Rattle.admission_log.specs.Histories.{History}
use Rattle.scene_gen.specs.Datagrams.{start}
use Rattle.scene_gen.specs.Scenes.{coming, items}
use Rattle.session_script.specs.Scripts.{Binding, End, GetsNothing, Script, ends, picks}
use Rattle.tracker_session.specs.declared.counts.Counts.{Counts}
use Rattle.tracker_session.specs.declared.totals.Totals.{Totals}
use Rattle.tracker_session.specs.Counting.{counts_of}
use Rattle.tracker_session.specs.Replay.{IsReplayLog}
use Rattle.tracker_session.specs.SceneSettings.{AreSceneSettings}
use Rattle.tracker_session.specs.Screen.{counts_line}
use Rattle.tracker_session.specs.Totals.{AreTotals, totals_line}

-- Items from a start on have this log under the settings, and these are its counts and its totals.
pub record HaveTotals (settings : Settings) (start : ℕ) (items : List Item) (counts : Counts) (totals : Totals) : Type 0 where
  pub log : History
  pub log_is : IsReplayLog settings start items log
  pub counts_are : counts ≡ counts_of false items log
  pub totals_are : AreTotals settings log totals

-- the items of a scene
abbrev pub scene_items : ℕ → ℕ → ℕ → ℕ → List Item
scene_items seed aircraft seconds late = items (coming seed aircraft seconds late) seconds

-- .. under the settings of a scene
pub record IsExercise (seed aircraft seconds late : ℕ) (counts : Counts) (totals : Totals) : Type 0 where
  pub settings : Settings
  pub given : AreSceneSettings settings
  pub told : HaveTotals settings start (scene_items seed aircraft seconds late) counts totals

pub record Exercised (seed aircraft seconds late : ℕ) : Type 0 where
  pub counts : Counts
  pub totals : Totals
  pub is : IsExercise seed aircraft seconds late counts totals

-- its two lines
abbrev pub exercise_lines : Counts → Totals → List ℕ
exercise_lines counts totals = counts_line counts ++ totals_line totals

-- It touches no place, and ends with the two lines.
abbrev pub exercise_script : ℕ → ℕ → ℕ → ℕ → Script
exercise_script seed aircraft seconds late = picks (λ (e : Exercised seed aircraft seconds late). ends (Ok (exercise_lines e.counts e.totals)))

-- the end is the two lines, or it broke off
abbrev pub TellsExercise : ℕ → ℕ → ℕ → ℕ → Option End → Type 0
TellsExercise seed aircraft seconds late stop = ((e : Exercised seed aircraft seconds late) × (stop ≡ Some (Ok (exercise_lines e.counts e.totals)))) ⊎ (stop ≡ None)

-- No place is bound, and none gets anything.
pub record ExerciseGives (seed aircraft seconds late : ℕ) (bound : List Binding) (gets : Place → List ℕ) (stop : Option End) : Type 0 where
  pub unbound : bound ≡ []
  pub nothing : GetsNothing gets
  pub end_is : TellsExercise seed aircraft seconds late stop

-- the text is that of an exercise
abbrev pub IsExerciseText : ℕ → ℕ → ℕ → ℕ → List ℕ → Type 0
IsExerciseText seed aircraft seconds late text = (e : Exercised seed aircraft seconds late) × (text ≡ exercise_lines e.counts e.totals)
