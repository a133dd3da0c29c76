use Rattle.std.proofs.Common.{rules, ◌≡◌, ◌<◌, ◌≤◌, ◌∙◌, ap, sym, ℕ, List, [], ◌∷◌, Option, None, Some, length, get_or, map, string_bytes, arith}
use Rattle.std.specs.Prelude.{codes, IfSome}
use Rattle.pairing_load.specs.Words.{AreWordsOfPairings, TellPairings}
use Rattle.pairing_load.specs.declared.words.PairingLoad.{PairingLoad}
use Rattle.pairing_load.proofs.words.pairings_of.Goals as goal

five : {A : Type 0} (xs : List A) (a b c d e : A) → 5 ≤ length xs → length xs < 6 → a ≡ get_or xs 0 a → b ≡ get_or xs 1 b → c ≡ get_or xs 2 c → d ≡ get_or xs 3 d → e ≡ get_or xs 4 e → xs ≡ a ∷ b ∷ c ∷ d ∷ e ∷ []
five (v ∷ w ∷ x ∷ y ∷ z ∷ []) a b c d e long short ea eb ec ed ee = λ i. sym ea i ∷ sym eb i ∷ sym ec i ∷ sym ed i ∷ sym ee i ∷ []
five xs a b c d e long short ea eb ec ed ee = absurd (omega arith)

of_words : (words : List (List ℕ)) (count size costs seed : List ℕ) (o : Option PairingLoad) → words ≡ codes "pairings" ∷ count ∷ size ∷ costs ∷ seed ∷ [] → IfSome o (λ load. TellPairings count size costs seed load) → IfSome o (λ load. AreWordsOfPairings words load)
of_words words count size costs seed None e h = tt
of_words words count size costs seed (Some load) e h = record { count = count; size = size; costs = costs; seed = seed; whole = e; tell = h }

pub returns-clause-load : goal.returns-clause-load
returns-clause-load c =
    let whole = five c.args.words.now _ _ _ _ _ c.in-len5.len_at_least c.in-len5.len_below c.command-item.is c.count-item.is c.size-item.is c.costs-item.is c.seed-item.is in
    let command : string_bytes c.command-item.result ≡ codes "pairings" = search rules in
    of_words _ c.as_str-2.result.now c.as_str-3.result.now c.as_str-4.result.now c.as_str-5.result.now c.pairings_with.result
    (ap (map (λ word. string_bytes word)) whole ∙ (λ i. command i ∷ sym c.as_str-2.ensures.value i ∷ sym c.as_str-3.ensures.value i ∷ sym c.as_str-4.ensures.value i ∷ sym c.as_str-5.ensures.value i ∷ []))
    c.pairings_with.ensures.load
