use Rattle.std.proofs.Common.{take}
use Rattle.std.specs.List.{AllZip}
use Rattle.settings_text.specs.Documents.{IsRadar, tables_of}
use Rattle.settings_text.proofs.radars.read_first.Given as goal

abbrev pub invariant-loop-radar : goal.invariant-loop-radar
invariant-loop-radar l = AllZip IsRadar (take l.radar (tables_of l.entries)) l.radars.items
