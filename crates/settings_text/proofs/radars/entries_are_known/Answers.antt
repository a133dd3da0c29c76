use Rattle.std.proofs.Common.{◌∙◌, sym, rules, tests}
use Rattle.std.proofs.lemmas.Iterator.{YieldsList-from_slice}
use Rattle.std.proofs.lemmas.Iterator.Search.{all_from_yields_List}
use Rattle.settings_text.specs.Keys.{radar_keys}
use Rattle.settings_text.specs.Documents.{has_known_keys}
use Rattle.settings_text.proofs.Entries.{entry_of, all_entries}
use Rattle.settings_text.proofs.radars.entries_are_known.Goals as goal

pub returns : goal.returns
returns c =
    all_from_yields_List (λ entry. has_known_keys radar_keys (entry_of entry)) _ _ c.all.result c.all.ensures.ran (YieldsList-from_slice c.args.entries.now cc) (λ x b q k. search (rules, tests))
    ∙ sym (all_entries (has_known_keys radar_keys) c.args.entries.now)
