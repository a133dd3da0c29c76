use Rattle.std.proofs.Common.{◌≡◌, length, take}
use Rattle.toml.specs.View.{table_view}
use Rattle.settings_text.specs.Rules.{keys_of_rules}
use Rattle.settings_text.specs.Tables.{Gives}
use Rattle.settings_text.proofs.tables.numbers.Given as goal

abbrev pub invariant-loop-index : goal.invariant-loop-index
invariant-loop-index g l = record { long : length l.numbers ≡ g.row.N; given : Gives (table_view l.table) (take l.index (keys_of_rules l.rules)) (take l.index l.numbers) }
