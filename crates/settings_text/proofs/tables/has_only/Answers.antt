use Rattle.std.proofs.Common.{◌∙◌, String, Global, string_bytes, rules, tests}
use Rattle.std.specs.BTreeMap.{keys}
use Rattle.std.proofs.lemmas.Iterator.Consumers.{YieldsList-from_rest}
use Rattle.std.proofs.lemmas.Iterator.Search.{all_from_yields_List}
use Rattle.settings_text.specs.Rules.{keys_of_rules}
use Rattle.settings_text.specs.Tables.{is_key}
use Rattle.settings_text.proofs.Names.{all_names}
use Rattle.settings_text.proofs.tables.has_only.Goals as goal

pub returns : goal.returns
returns c =
    all_from_yields_List (λ (name : String Global). is_key (keys_of_rules c.args.rules.now) (string_bytes name)) _ _ c.all.result c.all.ensures.ran (YieldsList-from_rest (keys c.args.table.now) c.keys.ensures.rest) (λ x b q k. search (rules, tests))
    ∙ all_names (is_key (keys_of_rules c.args.rules.now)) c.args.table.now.entries
