-- What the command `replay` does, step by step.
use Rattle.std.specs.Prelude.{◌≡◌, ◌⊎◌, ⊤, ℕ, Bool, true, false, List, [], ◌∷◌, Option, Some, None, Result, Ok, Err}
use Rattle.io_traits.specs.declared.host.Place.TheVariants as places
use Rattle.recording.specs.Items.{Item}
use Rattle.admission_log.specs.declared.settings.Settings as admission
use Rattle.admission_log.specs.declared.events.Event.{Event}
use Rattle.admission_log.specs.Histories.{History}
use Rattle.edition_form.specs.Prices.{ArePricesOf}
use Rattle.price_form.specs.Files.{magic}
use Rattle.settings_text.specs.Answers.{IsSettingsAnswer}
use Rattle.settings_text.specs.declared.faults.SettingsFault.{SettingsFault}
use Rattle.session_script.specs.Scripts.{End, Script, reads, opens, writes, picks, ends}
use Rattle.session_script.specs.declared.status.Status.{Status}
use Rattle.session_script.specs.declared.status.Status.TheVariants.{Input, Memory, Settings}
use Rattle.tracker_session.specs.declared.counts.Counts.{Counts}
use Rattle.tracker_session.specs.Counting.{counts_of}
use Rattle.tracker_session.specs.Inputs.{HasInput, tells_biases}
use Rattle.tracker_session.specs.Replay.{Adds, IsEditionAt, empty_log, log_with, newest}
use Rattle.tracker_session.specs.Screen.{counts_line}
use Rattle.tracker_session.specs.Taking.{shows}

-- ---- what it goes on by: each is found, and there is one

-- the settings of a document, or its first fault
pub record DocumentAnswer (document : List ℕ) : Type 0 where
  pub answer : Result admission.Settings SettingsFault
  pub is : IsSettingsAnswer document answer

-- what an item adds to a log
pub record Added (settings : admission.Settings) (log : History) (item : Item) : Type 0 where
  pub event : Option Event
  pub adds : Adds settings log item event

-- the octets of the newest edition of a log, and its prices
pub record EditionOf (settings : admission.Settings) (log : History) : Type 0 where
  pub octets : List ℕ
  pub is : IsEditionAt settings log (newest log) octets
  pub prices : List ℕ
  pub priced : ArePricesOf settings log (newest log) prices

-- ---- how it ends

-- the line of the counts, or the first fault
abbrev pub end_at : Option ℕ → Counts → End
end_at None counts = Ok (counts_line counts)
end_at (Some offset) counts = Err (Input offset)

-- .. of items, at their log
abbrev pub ending : Bool → Option ℕ → List Item → History → Script
ending tells fault items log = ends (end_at fault (counts_of tells items log))

-- ---- the steps

-- an edition, where there is to be one, goes to Output, and then its prices to Prices
abbrev pub edition_script : admission.Settings → History → Bool → Script → Script
edition_script settings log true next = picks (λ (edition : EditionOf settings log). writes places.Output edition.octets (writes places.Prices edition.prices next))
edition_script settings log false next = next

-- behind a log, the items that are left: each edition is written where its tick is taken
unfoldable pub items_script : admission.Settings → (History → Script) → History → List Item → Script
items_script settings next log [] = next log
items_script settings next log (item ∷ items) =
    picks (λ (added : Added settings log item). edition_script settings (log_with log added.event) (shows added.event) (items_script settings next (log_with log added.event) items))

-- what was read of Input
abbrev pub octets_script : admission.Settings → List ℕ → Script
octets_script settings octets = picks (λ (r : HasInput octets). items_script settings (ending (tells_biases octets) r.fault r.items) (empty_log r.start) r.items)

-- Prices begins with its four octets.
abbrev pub prices_script : admission.Settings → List ℕ → Script
prices_script settings octets = writes places.Prices magic (octets_script settings octets)

-- under good settings
abbrev pub input_script : List ℕ → List ℕ → List ℕ → admission.Settings → Script
input_script input output prices settings = reads places.Input input (λ octets. opens places.Output output (opens places.Prices prices (prices_script settings octets)))

abbrev pub under : Result admission.Settings SettingsFault → (admission.Settings → Script) → Script
under (Ok settings) next = next settings
under (Err fault) next = ends (Err (Settings fault))

-- It reads Settings and judges it, and then reads Input, opens Output and Prices, and takes the items.
abbrev pub replay_script : List ℕ → List ℕ → List ℕ → List ℕ → Script
replay_script settings input output prices = reads places.Settings settings (λ document. picks (λ (d : DocumentAnswer document). under d.answer (input_script input output prices)))

-- ---- what its parts answer

-- the status tells the first fault of the document, or memory is wanting
abbrev pub StopsJudging : List ℕ → Status → Type 0
StopsJudging document (Settings fault) = IsSettingsAnswer document (Err fault)
StopsJudging document Memory = ⊤
StopsJudging document _ = ⊥

-- the end of items with this fault and these counts, or memory is wanting
abbrev pub IsEndAt : Option ℕ → Counts → End → Type 0
IsEndAt fault counts end = (end ≡ end_at fault counts) ⊎ (end ≡ Err Memory)
