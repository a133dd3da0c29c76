-- What a document says of the system and of the radars, and all that is wrong with its numbers.
use Rattle.std.specs.Prelude.{◌≡◌, ℕ, ℤ, Bool, true, ◌&&◌, ◌||◌, if◌then◌else◌, nat_lt, List, [], ◌∷◌, ◌++◌, length, map, take, Option, Some, None, option_map, codes}
use Rattle.std.specs.List.{AllZip, enumerate_from, flat_map, list_all}
use Rattle.std.specs.Str.{bytes_eq}
use Rattle.toml.specs.Data.{Data, Items, no_items, item, Members, get_member, as_array, as_table}
use Rattle.toml.specs.View.{view}
use Rattle.toml.specs.declared.value.Value.{Value}
use Rattle.plot_geometry.specs.declared.radars.RadarSettings.{RadarSettings}
use Rattle.settings_text.specs.declared.faults.SettingsFault.{SettingsFault}
use Rattle.settings_text.specs.declared.faults.SettingsFault.TheVariants.{Missing, Kind, Range}
use Rattle.settings_text.specs.Keys.{Key, system_keys, radar_keys}
use Rattle.settings_text.specs.Tables.{path, Gives, faults, has_only, names}
use Rattle.settings_text.specs.Numbers.{radar_numbers}

-- what stands at `system`: nothing, something that is no table, or a table
abbrev pub system_of : Members → Option (Option Members)
system_of document = option_map as_table (get_member (codes "system") document)

-- the entries of an array, each as a table, if it is one
abbrev pub entries : Items → List (Option Members)
entries no_items = []
entries (item first rest) = as_table first ∷ entries rest

-- the entries of what is an array
abbrev pub as_entries : Data → Option (List (Option Members))
as_entries value = option_map entries (as_array value)

-- what stands at `radar`: nothing, something that is no array, or the entries of an array
abbrev pub radars_of : Members → Option (Option (List (Option Members)))
radars_of document = option_map as_entries (get_member (codes "radar") document)

-- what some values are as entries
abbrev pub tables_of : List Value → List (Option Members)
tables_of = map (λ value. as_table (view value))

-- what is wrong with the numbers of the system: keys 1 to 7
abbrev pub system_faults : Option (Option Members) → List SettingsFault
system_faults None = Missing (path None 1) ∷ []
system_faults (Some None) = Kind (path None 1) ∷ []
system_faults (Some (Some table)) = faults None table system_keys

-- what is wrong with the numbers of one radar: keys 8 to 19
abbrev pub entry_faults : ℕ → Option Members → List SettingsFault
entry_faults radar None = Kind (path (Some radar) 8) ∷ []
entry_faults radar (Some table) = faults (Some radar) table radar_keys

-- the same of some entries, numbered on
abbrev pub numbered_faults : ℕ → List (Option Members) → List SettingsFault
numbered_faults first tables = flat_map (λ e. entry_faults e.0 e.1) (enumerate_from first tables)

-- what is wrong with the entries: that there is none, or what is wrong with the first 32, and that there are more
abbrev pub entries_faults : List (Option Members) → List SettingsFault
entries_faults [] = Missing (path (Some 0) 8) ∷ []
entries_faults (first ∷ others) =
    let all = first ∷ others in
    numbered_faults 0 (take 32 all) ++ (if nat_lt 32 (length all) then Range (path (Some 32) 8) ∷ [] else [])

abbrev pub radars_faults : Option (Option (List (Option Members))) → List SettingsFault
radars_faults None = Missing (path (Some 0) 8) ∷ []
radars_faults (Some None) = Kind (path (Some 0) 8) ∷ []
radars_faults (Some (Some entries)) = entries_faults entries

-- all that is wrong with the numbers of a document, in the order of the keys
abbrev pub number_faults : Members → List SettingsFault
number_faults document = system_faults (system_of document) ++ radars_faults (radars_of document)

-- the document gives the system these numbers
pub record SystemGives (document : Members) (numbers : List ℤ) : Type 0 where
  pub table : Members
  pub stands : system_of document ≡ Some (Some table)
  pub gives : Gives table system_keys numbers

-- an entry gives a radar its numbers
abbrev pub IsRadar : Option Members → RadarSettings → Type 0
IsRadar None radar = ⊥
IsRadar (Some table) radar = Gives table radar_keys (radar_numbers radar)

-- the document has these radars
pub record AreRadars (document : Members) (radars : List RadarSettings) : Type 0 where
  pub entries : List (Option Members)
  pub stand : radars_of document ≡ Some (Some entries)
  pub each : AllZip IsRadar entries radars

-- what is a table has these keys only
abbrev pub has_known_keys : List Key → Option Members → Bool
has_known_keys keys None = true
has_known_keys keys (Some table) = has_only keys table

abbrev pub system_known : Option (Option Members) → Bool
system_known None = true
system_known (Some system) = has_known_keys system_keys system

abbrev pub radars_known : Option (Option (List (Option Members))) → Bool
radars_known (Some (Some entries)) = list_all (has_known_keys radar_keys) entries
radars_known other = true

-- the name of one of the two keys of a document
abbrev pub is_part : List ℕ → Bool
is_part name = bytes_eq name (codes "system") || bytes_eq name (codes "radar")

-- no key of the document is unknown
abbrev pub is_known : Members → Bool
is_known document = (list_all is_part (names document) && system_known (system_of document)) && radars_known (radars_of document)
