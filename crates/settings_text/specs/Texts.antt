-- The text of each fault: one line, without its end.
use Rattle.std.specs.Prelude.{ℕ, List, ◌++◌, Option, Some, None, codes}
use Rattle.std.specs.Fmt.{decimal}
use Rattle.settings_text.specs.declared.faults.KeyPath.{KeyPath}
use Rattle.settings_text.specs.declared.faults.SettingsFault.{SettingsFault}
use Rattle.settings_text.specs.declared.faults.SettingsFault.TheVariants.{Syntax, Missing, Kind, Range, Unknown, Duplicate}

abbrev pub key_text : Option ℕ → ℕ → List ℕ
key_text None key = codes "key " ++ decimal key
key_text (Some radar) key = codes "key " ++ (decimal key ++ (codes " of radar " ++ decimal radar))

abbrev pub path_text : KeyPath → List ℕ
path_text path = key_text path.radar path.key

abbrev pub fault_text : SettingsFault → List ℕ
fault_text Syntax = codes "settings: not a document"
fault_text (Missing path) = codes "settings: missing " ++ path_text path
fault_text (Kind path) = codes "settings: kind of " ++ path_text path
fault_text (Range path) = codes "settings: range of " ++ path_text path
fault_text Unknown = codes "settings: unknown key"
fault_text (Duplicate radar first) = codes "settings: radar " ++ (decimal radar ++ (codes " repeats radar " ++ decimal first))
