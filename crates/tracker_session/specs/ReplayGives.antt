-- What the command `replay` gives, by what a replay is.
use Rattle.std.specs.Prelude.{◌≡◌, ◌⊎◌, ◌≤◌, ℕ, List, [], ◌∷◌, ◌++◌, length, take, Option, Some, None, Ok, Err}
use Rattle.io_traits.specs.declared.host.Place.{Place}
use Rattle.io_traits.specs.declared.host.Place.TheVariants as places
use Rattle.io_traits.specs.declared.host.Way.TheVariants as ways
use Rattle.recording.specs.declared.header.Header.{Header}
use Rattle.recording.specs.Items.{Item}
use Rattle.admission_log.specs.declared.settings.Settings as admission
use Rattle.admission_log.specs.Histories.{History}
use Rattle.price_form.specs.Files.{magic}
use Rattle.settings_text.specs.Answers.{IsSettingsAnswer}
use Rattle.settings_text.specs.declared.faults.SettingsFault.{SettingsFault}
use Rattle.session_script.specs.Scripts.{Binding, End, GetsNothing, piece_for}
use Rattle.session_script.specs.declared.status.Status.TheVariants.{Settings}
use Rattle.tracker_session.specs.declared.counts.Counts.{Counts}
use Rattle.tracker_session.specs.Inputs.{IsInput}
use Rattle.tracker_session.specs.Replay.{IsOutput, IsPrices, IsReplayLog, Replays}
use Rattle.tracker_session.specs.ReplayScript.{end_at}

-- Settings; Settings and Input; Output too; and Prices: each for its way, with its name
abbrev pub settings_read : List ℕ → List Binding
settings_read settings = (places.Settings, ways.Read, settings) ∷ []

abbrev pub both_read : List ℕ → List ℕ → List Binding
both_read settings input = (places.Settings, ways.Read, settings) ∷ (places.Input, ways.Read, input) ∷ []

abbrev pub output_open : List ℕ → List ℕ → List ℕ → List Binding
output_open settings input output = (places.Settings, ways.Read, settings) ∷ (places.Input, ways.Read, input) ∷ (places.Output, ways.Write, output) ∷ []

abbrev pub all_bound : List ℕ → List ℕ → List ℕ → List ℕ → List Binding
all_bound settings input output prices = (places.Settings, ways.Read, settings) ∷ (places.Input, ways.Read, input) ∷ (places.Output, ways.Write, output) ∷ (places.Prices, ways.Write, prices) ∷ []

-- Output gets these octets, Prices those, and no other place any
abbrev pub pieces_for : List ℕ → List ℕ → Place → List ℕ
pieces_for output prices p = piece_for places.Output output p ++ piece_for places.Prices prices p

abbrev pub GetsBoth : List ℕ → List ℕ → (Place → List ℕ) → Type 0
GetsBoth output prices gets = (p : Place) → gets p ≡ pieces_for output prices p

-- Settings holds good settings.
pub record HasSettings (holds : Place → List ℕ → Type 0) (given : admission.Settings) : Type 0 where
  pub document : List ℕ
  pub held : holds places.Settings document
  pub good : IsSettingsAnswer document (Ok given)

-- A prefix of the output of the first items, and one of a price file of theirs: so much was written where a replay broke off.
pub record ReplaysPartly (settings : admission.Settings) (octets output prices : List ℕ) : Type 0 where
  pub header : Option Header
  pub start : ℕ
  pub items : List Item
  pub fault : Option ℕ
  pub reading : IsInput octets header start items fault
  pub number : ℕ
  pub log : History
  pub log_is : IsReplayLog settings start (take number items) log
  pub whole : List ℕ
  pub whole_is : IsOutput settings log whole
  pub n : ℕ
  pub within : n ≤ length whole
  pub part : output ≡ take n whole
  pub priced : List ℕ
  pub priced_is : IsPrices settings log priced
  pub m : ℕ
  pub within_prices : m ≤ length priced
  pub part_of_prices : prices ≡ take m priced

-- Settings has a fault: the end is the first one, and nothing else was bound.
pub record IsRefused (settings : List ℕ) (holds : Place → List ℕ → Type 0) (bound : List Binding) (gets : Place → List ℕ) (stop : Option End) : Type 0 where
  pub document : List ℕ
  pub held : holds places.Settings document
  pub fault : SettingsFault
  pub bad : IsSettingsAnswer document (Err fault)
  pub bound_is : bound ≡ settings_read settings
  pub nothing : GetsNothing gets
  pub end_is : stop ≡ Some (Err (Settings fault))

-- What Input holds was replayed under the settings: Output gets the output, Prices a price file of its editions, and the end is the line of the counts, or the first fault.
pub record IsReplayed (settings input output prices : List ℕ) (holds : Place → List ℕ → Type 0) (bound : List Binding) (gets : Place → List ℕ) (stop : Option End) : Type 0 where
  pub given : admission.Settings
  pub has : HasSettings holds given
  pub octets : List ℕ
  pub held : holds places.Input octets
  pub written : List ℕ
  pub counts : Counts
  pub fault : Option ℕ
  pub replays : Replays given octets written counts fault
  pub priced : List ℕ
  pub priced_is : IsPrices given replays.log priced
  pub bound_is : bound ≡ all_bound settings input output prices
  pub got : GetsBoth written priced gets
  pub end_is : stop ≡ Some (end_at fault counts)

-- It broke off before the settings were known to be good: Settings may be bound, and nothing was written.
pub record BrokeAtSettings (settings : List ℕ) (bound : List Binding) (gets : Place → List ℕ) (stop : Option End) : Type 0 where
  pub bound_is : (bound ≡ []) ⊎ (bound ≡ settings_read settings)
  pub nothing : GetsNothing gets
  pub broken : stop ≡ None

-- no more was written than octets that Prices begins with, or prefixes of what Input's replay gives
pub record BeganPrices (gets : Place → List ℕ) : Type 0 where
  pub n : ℕ
  pub within : n ≤ length magic
  pub got : GetsBoth [] (take n magic) gets

pub record WrotePrefixes (holds : Place → List ℕ → Type 0) (given : admission.Settings) (gets : Place → List ℕ) : Type 0 where
  pub octets : List ℕ
  pub held : holds places.Input octets
  pub output : List ℕ
  pub prices : List ℕ
  pub partly : ReplaysPartly given octets output prices
  pub got : GetsBoth output prices gets

-- which places were bound then, and what was written
pub data Wrote (settings input output prices : List ℕ) (holds : Place → List ℕ → Type 0) (given : admission.Settings) (bound : List Binding) (gets : Place → List ℕ) : Type 0 where
  reading : bound ≡ both_read settings input → GetsNothing gets → Wrote settings input output prices holds given bound gets
  opening : bound ≡ output_open settings input output → GetsNothing gets → Wrote settings input output prices holds given bound gets
  began : bound ≡ all_bound settings input output prices → BeganPrices gets → Wrote settings input output prices holds given bound gets
  prefixes : bound ≡ all_bound settings input output prices → WrotePrefixes holds given gets → Wrote settings input output prices holds given bound gets

-- It broke off later: nothing was written before Prices was bound, and then no more than prefixes.
pub record BrokeLater (settings input output prices : List ℕ) (holds : Place → List ℕ → Type 0) (bound : List Binding) (gets : Place → List ℕ) (stop : Option End) : Type 0 where
  pub given : admission.Settings
  pub has : HasSettings holds given
  pub so_far : Wrote settings input output prices holds given bound gets
  pub broken : stop ≡ None

abbrev pub ReplayGives : List ℕ → List ℕ → List ℕ → List ℕ → (Place → List ℕ → Type 0) → List Binding → (Place → List ℕ) → Option End → Type 0
ReplayGives settings input output prices holds bound gets stop =
    IsRefused settings holds bound gets stop ⊎ (IsReplayed settings input output prices holds bound gets stop ⊎ (BrokeAtSettings settings bound gets stop ⊎ BrokeLater settings input output prices holds bound gets stop))
