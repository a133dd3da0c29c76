-- What the octets of the settings are read to: settings, or the first fault.
use Rattle.std.specs.Prelude.{◌≡◌, ⊤, ℕ, ◌<◌, ◌≤◌, true, false, List, [], ◌∷◌, length, take, slice_get, Some, Result, Ok, Err}
use Rattle.std.specs.Str.{IsUtf8}
use Rattle.toml.specs.Data.{Members}
use Rattle.toml.specs.Parse.{parse_document}
use Rattle.plot_geometry.specs.declared.radars.RadarSettings.{RadarSettings}
use Rattle.admission_log.specs.declared.settings.Settings.{Settings}
use Rattle.admission_log.specs.Sources.{HasSource, HaveOwnSources}
use Rattle.settings_text.specs.declared.faults.SettingsFault.{SettingsFault}
use Rattle.settings_text.specs.declared.faults.SettingsFault.TheVariants.{Syntax, Unknown, Duplicate}
use Rattle.settings_text.specs.declared.faults.SettingsError.{SettingsError}
use Rattle.settings_text.specs.declared.faults.SettingsError.TheVariants.{Fault, NoMemory}
use Rattle.settings_text.specs.Numbers.{system_numbers}
use Rattle.settings_text.specs.Documents.{SystemGives, number_faults, AreRadars, is_known}

-- the octets are the TOML document with these members
pub record IsDocument (octets : List ℕ) (document : Members) : Type 0 where
  pub small : length octets ≤ 65536
  pub text : IsUtf8 octets
  pub parsed : parse_document octets ≡ Some document

-- the document gives the settings their numbers, and has no other keys
pub record IsSettings (document : Members) (settings : Settings) : Type 0 where
  pub system : SystemGives document (system_numbers settings)
  pub radars : AreRadars document settings.radars
  pub known : is_known document ≡ true

-- the radar is the least that has the SAC and the SIC of an earlier one
pub record Repeats (radars : List RadarSettings) (radar first : ℕ) : Type 0 where
  pub earlier : first < radar
  pub one : RadarSettings
  pub other : RadarSettings
  pub one_is : slice_get radars first ≡ Some one
  pub other_is : slice_get radars radar ≡ Some other
  pub same : HasSource one.sac one.sic other
  pub least : HaveOwnSources (take radar radars)

pub record HasDuplicate (document : Members) (radar first : ℕ) : Type 0 where
  pub radars : List RadarSettings
  pub are_radars : AreRadars document radars
  pub repeats : Repeats radars radar first

-- the first in a list
abbrev pub IsFirst : SettingsFault → List SettingsFault → Type 0
IsFirst fault faults = (rest : List SettingsFault) × (faults ≡ fault ∷ rest)

-- The first fault of a document: something wrong with its numbers, else an unknown key, else a radar that repeats another.
pub data IsFaultOf (document : Members) (fault : SettingsFault) : Type 0 where
  wrong_number : IsFirst fault (number_faults document) → IsFaultOf document fault
  unknown_key : number_faults document ≡ [] → is_known document ≡ false → fault ≡ Unknown → IsFaultOf document fault
  duplicate : number_faults document ≡ [] → is_known document ≡ true → (radar first : ℕ) → HasDuplicate document radar first → fault ≡ Duplicate radar first → IsFaultOf document fault

-- the first fault of some octets
pub data IsSettingsFault (octets : List ℕ) (fault : SettingsFault) : Type 0 where
  no_document : ((document : Members) → ¬ IsDocument octets document) → fault ≡ Syntax → IsSettingsFault octets fault
  in_document : (document : Members) → IsDocument octets document → IsFaultOf document fault → IsSettingsFault octets fault

-- the octets give these settings, or have this first fault
abbrev pub IsSettingsAnswer : List ℕ → Result Settings SettingsFault → Type 0
IsSettingsAnswer octets (Ok settings) = (document : Members) × IsDocument octets document × IsSettings document settings
IsSettingsAnswer octets (Err fault) = IsSettingsFault octets fault

-- octets have one answer, and no other
pub record HasOneSettingsAnswer (octets : List ℕ) : Type 0 where
  pub answer : Result Settings SettingsFault
  pub is_answer : IsSettingsAnswer octets answer
  pub only : (other : Result Settings SettingsFault) → IsSettingsAnswer octets other → other ≡ answer

-- of a refusal by a fault; want of memory says nothing
abbrev pub OnFault : SettingsError → (SettingsFault → Type 0) → Type 0
OnFault (Fault fault) P = P fault
OnFault NoMemory P = ⊤

-- a result is that answer, unless memory is wanting
abbrev pub Agrees : Result Settings SettingsError → Result Settings SettingsFault → Type 0
Agrees (Ok settings) answer = answer ≡ Ok settings
Agrees (Err error) answer = OnFault error (λ fault. answer ≡ Err fault)
