use Rattle.std.proofs.Common.{◌∙◌, sym, rules, tests}
use Rattle.std.specs.Str.{bytes_eq}
use Rattle.std.proofs.lemmas.Iterator.{YieldsList-from_slice}
use Rattle.std.proofs.lemmas.Iterator.Search.{any_from_yields_List}
use Rattle.settings_text.specs.Rules.{text_of}
use Rattle.settings_text.proofs.Rules.{any_key}
use Rattle.settings_text.proofs.tables.is_key.Goals as goal

pub returns : goal.returns
returns c =
    any_from_yields_List (λ rule. bytes_eq (text_of rule.name) c.args.name.now) _ _ c.any.result c.any.ensures.ran (YieldsList-from_slice c.args.rules.now cc) (λ x b q k. search (rules, tests))
    ∙ sym (any_key c.args.name.now c.args.rules.now)
