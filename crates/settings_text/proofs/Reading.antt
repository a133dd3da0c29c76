-- A table's keys, read one by one.
use Rattle.std.proofs.Common.{◌≡◌, ◌∙◌, ℕ, suc, ◌+◌, ◌<◌, ℤ, List, [], ◌∷◌, length, get_or, set, take, drop, Option, Some, Ok, refl, ap, arith}
use Rattle.std.proofs.lemmas.List.{take_more, take_more_set, length-map}
use Rattle.std.proofs.Math.Seq.{split_at}
use Rattle.std.proofs.lemmas.Slice.Zip.{all_zipped_more}
use Rattle.std.proofs.lemmas.List.Elements.{filter_map-append}
use Rattle.toml.specs.Data.{Members}
use Rattle.settings_text.specs.declared.keys.KeyRule.{KeyRule}
use Rattle.settings_text.specs.declared.faults.SettingsFault.{SettingsFault}
use Rattle.settings_text.specs.Keys.{Key}
use Rattle.settings_text.specs.Rules.{key_of_rule, keys_of_rules}
use Rattle.settings_text.specs.Tables.{number_at, fault_at, Gives, faults}
use Rattle.settings_text.specs.Answers.{IsFirst}
use Rattle.settings_text.proofs.Rules.{key_at}

-- where a table gives all numbers, nothing is wrong
pub no_faults : (radar : Option ℕ) (table : Members) (keys : List Key) (numbers : List ℤ) → Gives table keys numbers → faults radar table keys ≡ []
no_faults radar table [] [] given = refl
no_faults radar table [] (number ∷ numbers) given = refl
no_faults radar table (key ∷ keys) [] given = absurd given
no_faults radar table (key ∷ keys) (number ∷ numbers) given = rw (given.0, no_faults radar table keys numbers given.1)

-- one more key
more_given : (table : Members) (keys : List Key) (numbers : List ℤ) (i : ℕ) (d : Key) (number : ℤ) → i < length keys → i < length numbers
    → Gives table (take i keys) (take i numbers) → number_at table (get_or keys i d) ≡ Ok number → Gives table (take (i + 1) keys) (take (i + 1) (set numbers i number))
more_given table keys numbers i d number h k given found =
    rw (take_more keys i d h, take_more_set numbers i number k) (all_zipped_more (λ key n. number_at table key ≡ Ok n) (take i keys) (take i numbers) (get_or keys i d) number given found)

-- the first key at which something is wrong
first_wrong : (radar : Option ℕ) (table : Members) (keys : List Key) (numbers : List ℤ) (i : ℕ) (d : Key) (fault : SettingsFault) → i < length keys
    → Gives table (take i keys) (take i numbers) → fault_at radar table (get_or keys i d) ≡ Some fault → IsFirst fault (faults radar table keys)
first_wrong radar table keys numbers i d fault h given found =
    let rest = drop (suc i) keys in (
      faults radar table rest,
      ap (faults radar table) (split_at keys i d h) ∙ filter_map-append (fault_at radar table) (take i keys) (get_or keys i d ∷ rest) ∙ rw (no_faults radar table (take i keys) (take i numbers) given, found),
    )

-- the same of the keys of some rules
pub gives_more : (table : Members) (rules : List KeyRule) (numbers : List ℤ) (i : ℕ) (d : KeyRule) (number : ℤ) → i < length rules → i < length numbers
    → Gives table (take i (keys_of_rules rules)) (take i numbers) → number_at table (key_of_rule (get_or rules i d)) ≡ Ok number → Gives table (take (i + 1) (keys_of_rules rules)) (take (i + 1) (set numbers i number))
gives_more table rules numbers i d number h k given found =
    more_given table (keys_of_rules rules) numbers i (key_of_rule d) number (omega (arith, length-map rules key_of_rule)) k given (ap (number_at table) (key_at rules i d h) ∙ found)

pub first_fault : (radar : Option ℕ) (table : Members) (rules : List KeyRule) (numbers : List ℤ) (i : ℕ) (d : KeyRule) (fault : SettingsFault) → i < length rules
    → Gives table (take i (keys_of_rules rules)) (take i numbers) → fault_at radar table (key_of_rule (get_or rules i d)) ≡ Some fault → IsFirst fault (faults radar table (keys_of_rules rules))
first_fault radar table rules numbers i d fault h given found =
    first_wrong radar table (keys_of_rules rules) numbers i (key_of_rule d) fault (omega (arith, length-map rules key_of_rule)) given (ap (fault_at radar table) (key_at rules i d h) ∙ found)
