use Rattle.std.proofs.Common.{rules, ◌≡◌, ◌<◌, ◌≤◌, ◌∙◌, ap, sym, List, [], ◌∷◌, length, get_or, map, string_bytes, arith}
use Rattle.std.specs.Prelude.{codes}
use Rattle.pairing_load.proofs.words.prices_of.Goals as goal

four : {A : Type 0} (xs : List A) (a b c d : A) → 4 ≤ length xs → length xs < 5 → a ≡ get_or xs 0 a → b ≡ get_or xs 1 b → c ≡ get_or xs 2 c → d ≡ get_or xs 3 d → xs ≡ a ∷ b ∷ c ∷ d ∷ []
four (v ∷ w ∷ x ∷ y ∷ []) a b c d long short ea eb ec ed = λ i. sym ea i ∷ sym eb i ∷ sym ec i ∷ sym ed i ∷ []
four xs a b c d long short ea eb ec ed = absurd (omega arith)

pub returns-clause-load : goal.returns-clause-load
returns-clause-load c =
    let whole = four c.args.words.now _ _ _ _ c.in-len4.len_at_least c.in-len4.len_below c.command-item.is c.count-item.is c.seed-item.is c.output-item.is in
    let command : string_bytes c.command-item.result ≡ codes "prices" = search rules in
    record {
      count = c.as_str-2.result.now;
      seed = c.as_str-3.result.now;
      whole = ap (map (λ word. string_bytes word)) whole ∙ (λ i. command i ∷ sym c.as_str-2.ensures.value i ∷ sym c.as_str-3.ensures.value i ∷ sym c.as_str-4.ensures.value i ∷ []);
      tell = c.in_ok-load.ensures.load;
    }
