use Rattle.std.proofs.Common.{◌∙◌, Some, option_map, sym, ap}
use Rattle.settings_text.specs.Documents.{entries, tables_of}
use Rattle.settings_text.proofs.Entries.{entries_are}
use Rattle.settings_text.proofs.tables.values_of.Goals as goal

pub returns-in-Some : goal.returns-in-Some
returns-in-Some c =
    ap (λ values. Some (tables_of values)) c.deref.ensures.value ∙ ap Some (sym (entries_are c.in-Some.values.now.items)) ∙ ap (option_map entries) c.in-Some.ensures
