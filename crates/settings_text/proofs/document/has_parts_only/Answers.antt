use Rattle.std.proofs.Common.{◌∙◌, String, Global, string_bytes, rules, tests}
use Rattle.std.specs.BTreeMap.{keys}
use Rattle.std.proofs.lemmas.Iterator.Consumers.{YieldsList-from_rest}
use Rattle.std.proofs.lemmas.Iterator.Search.{all_from_yields_List}
use Rattle.settings_text.specs.Documents.{is_part}
use Rattle.settings_text.proofs.Names.{all_names}
use Rattle.settings_text.proofs.document.has_parts_only.Goals as goal

pub returns : goal.returns
returns c =
    all_from_yields_List (λ (name : String Global). is_part (string_bytes name)) _ _ c.all.result c.all.ensures.ran (YieldsList-from_rest (keys c.args.document.now) c.keys.ensures.rest) (λ x b q k. search (rules, tests))
    ∙ all_names is_part c.args.document.now.entries
