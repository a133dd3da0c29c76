-- How many steps a command takes: for each edition at most 31 for each slot that its log's events since the edition before open anew.
use Rattle.std.specs.Prelude.{◌≡◌, ◌⊎◌, ◌≤◌, ◌+◌, ◌*◌, ℕ, List, length, Option, Ok}
use Rattle.io_traits.specs.Host.{HostState}
use Rattle.io_traits.specs.Places.{WasRead}
use Rattle.io_traits.specs.declared.host.Place.TheVariants as places
use Rattle.recording.specs.declared.header.Header.{Header}
use Rattle.recording.specs.Items.{Item}
use Rattle.admission_log.specs.declared.settings.Settings as admission
use Rattle.admission_log.specs.Histories.{History, first}
use Rattle.scene_gen.specs.Datagrams.{start}
use Rattle.settings_text.specs.Answers.{IsSettingsAnswer}
use Rattle.tracker_engine.specs.Spans.{AreSpan}
use Rattle.tracker_session.specs.Exercise.{scene_items}
use Rattle.tracker_session.specs.Inputs.{IsInput}
use Rattle.tracker_session.specs.Replay.{AreOfAll, IsReplayLog, cut_before}
use Rattle.tracker_session.specs.SceneSettings.{AreSceneSettings}
use Rattle.tracker_session.specs.Words.{Line, replay, exercise}

-- the slots of an edition: the entry span of the log's events up to the cut, of which those up to the cut before were settled
abbrev pub AreSlotsAt : History → ℕ × ℕ → List ℕ → Type 0
AreSlotsAt log edition slots = AreSpan (first edition.1 log) (cut_before log edition.1) slots

-- those of all editions, one after the other
abbrev pub AreSlots : History → List ℕ → Type 0
AreSlots log slots = AreOfAll AreSlotsAt log slots

-- the count rose by no more than the slots of the log's editions allow
abbrev pub IsSpentOn : History → ℕ → ℕ → Type 0
IsSpentOn log old new = (slots : List ℕ) → AreSlots log slots → new ≤ old + 31 * length slots

-- .. of items' log, under settings and from a start on
abbrev pub IsSpentOnItems : admission.Settings → ℕ → List Item → ℕ → ℕ → Type 0
IsSpentOnItems settings begin items old new = (log : History) → IsReplayLog settings begin items log → IsSpentOn log old new

-- .. of octets that are read as items
abbrev pub IsSpentOnOctets : admission.Settings → List ℕ → ℕ → ℕ → Type 0
IsSpentOnOctets settings octets old new = (header : Option Header) (begin : ℕ) (items : List Item) (fault : Option ℕ) → IsInput octets header begin items fault → IsSpentOnItems settings begin items old new

-- Input was read, to its end or past the limit, and so much was spent on it.
pub record IsSpentOnInput (settings : admission.Settings) (host host' : HostState) (old new : ℕ) : Type 0 where
  pub octets : List ℕ
  pub read : WasRead places.Input octets host host'
  pub spent : IsSpentOnOctets settings octets old new

-- Settings was read, and is good; and so was Input.
pub record IsSpentOnReplay (host host' : HostState) (old new : ℕ) : Type 0 where
  pub document : List ℕ
  pub read : WasRead places.Settings document host host'
  pub settings : admission.Settings
  pub good : IsSettingsAnswer document (Ok settings)
  pub input : IsSpentOnInput settings host host' old new

-- the items of a scene, under its settings
abbrev pub IsSpentOnScene : ℕ → ℕ → ℕ → ℕ → ℕ → ℕ → Type 0
IsSpentOnScene seed aircraft seconds late old new = (settings : admission.Settings) → AreSceneSettings settings → IsSpentOnItems settings start (scene_items seed aircraft seconds late) old new

-- What a line's command may raise a count by: `replay` nothing, unless settings and input were read; any other command but `exercise` nothing.
abbrev pub IsSpent : Line → HostState → HostState → ℕ → ℕ → Type 0
IsSpent (replay settings input output prices workers) host host' old new = (new ≡ old) ⊎ IsSpentOnReplay host host' old new
IsSpent (exercise seed aircraft seconds late workers) host host' old new = IsSpentOnScene seed aircraft seconds late old new
IsSpent _ host host' old new = new ≡ old
