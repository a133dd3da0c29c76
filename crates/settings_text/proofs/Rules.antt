-- The keys of some rules, as the rules have them.
use Rattle.std.proofs.Common.{◌≡◌, ℕ, ◌<◌, ◌||◌, List, [], ◌∷◌, length, get_or, refl, ap}
use Rattle.std.specs.List.{list_any}
use Rattle.std.specs.Str.{bytes_eq}
use Rattle.std.proofs.lemmas.List.{get_or-map}
use Rattle.settings_text.specs.declared.keys.KeyRule.{KeyRule}
use Rattle.settings_text.specs.Rules.{text_of, key_of_rule, keys_of_rules}
use Rattle.settings_text.specs.Tables.{is_key}

pub key_at : (rules : List KeyRule) (i : ℕ) (d : KeyRule) → i < length rules → get_or (keys_of_rules rules) i (key_of_rule d) ≡ key_of_rule (get_or rules i d)
key_at rules i d h = get_or-map key_of_rule rules i d (key_of_rule d) h

-- a name is that of a key where it is that of its rule
pub any_key : (name : List ℕ) (rules : List KeyRule) → is_key (keys_of_rules rules) name ≡ list_any (λ rule. bytes_eq (text_of rule.name) name) rules
any_key name [] = refl
any_key name (rule ∷ rules) = ap (λ rest. bytes_eq (text_of rule.name) name || rest) (any_key name rules)
