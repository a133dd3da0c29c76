-- What a table says of some keys.
use Rattle.std.specs.Prelude.{◌≡◌, ℕ, Bool, true, ◌&&◌, if◌then◌else◌, ℤ, ◌≤ℤ◌, int_le, List, [], ◌∷◌, Option, Some, None, option_map, Result, Ok, Err}
use Rattle.std.specs.List.{AllZip, filter_map, list_all, list_any}
use Rattle.std.specs.Result.{result_err}
use Rattle.std.specs.Str.{bytes_eq}
use Rattle.toml.specs.Data.{Members, no_members, member, get_member, as_integer}
use Rattle.settings_text.specs.declared.faults.KeyPath.{KeyPath}
use Rattle.settings_text.specs.declared.faults.SettingsFault.{SettingsFault}
use Rattle.settings_text.specs.declared.faults.SettingsFault.TheVariants.{Missing, Kind, Range}
use Rattle.settings_text.specs.Keys.{Otherwise, required, default, Key}

-- what is wrong, once it is said where
abbrev pub KeyFault : Type 0
KeyFault = KeyPath → SettingsFault

-- the key of a radar, or of the system
abbrev pub path : Option ℕ → ℕ → KeyPath
path radar key = record { radar = radar; key = key }

-- the number is neither below the least nor above the greatest
abbrev pub IsInRange : ℤ → ℤ → ℤ → Type 0
IsInRange least greatest number = (least ≤ℤ number) × (number ≤ℤ greatest)

-- whether the number is in the range of the key
abbrev pub is_within : Key → ℤ → Bool
is_within key number = int_le key.least number && int_le number key.greatest

-- each number is in the range of its key
abbrev pub AreWithin : List Key → List ℤ → Type 0
AreWithin = AllZip (λ key number. is_within key number ≡ true)

-- the number of a key that is left out
abbrev pub left_out : Otherwise → Result ℤ KeyFault
left_out required = Err Missing
left_out (default number) = Ok number

-- The number of a key, by what stands there: nothing, something that is no integer, or an integer.
abbrev pub number_of : Key → Option (Option ℤ) → Result ℤ KeyFault
number_of key None = left_out key.otherwise
number_of key (Some None) = Err Kind
number_of key (Some (Some number)) = if is_within key number then Ok number else Err Range

-- the number that a table gives a key
abbrev pub number_at : Members → Key → Result ℤ KeyFault
number_at table key = number_of key (option_map as_integer (get_member key.name table))

-- the numbers that a table gives some keys, in their order
abbrev pub Gives : Members → List Key → List ℤ → Type 0
Gives table = AllZip (λ key number. number_at table key ≡ Ok number)

-- what is wrong at a key of a table
abbrev pub fault_at : Option ℕ → Members → Key → Option SettingsFault
fault_at radar table key = option_map (λ flaw. flaw (path radar key.number)) (result_err (number_at table key))

-- all that is wrong at some keys, in their order
abbrev pub faults : Option ℕ → Members → List Key → List SettingsFault
faults radar table = filter_map (fault_at radar table)

-- some key has this name
abbrev pub is_key : List Key → List ℕ → Bool
is_key keys name = list_any (λ key. bytes_eq key.name name) keys

-- the names that a table has
abbrev pub names : Members → List (List ℕ)
names no_members = []
names (member name value rest) = name ∷ names rest

-- the table has no other keys
abbrev pub has_only : List Key → Members → Bool
has_only keys table = list_all (is_key keys) (names table)
