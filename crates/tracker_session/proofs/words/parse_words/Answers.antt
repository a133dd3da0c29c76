use Rattle.std.proofs.Common.{rules, ◌≡◌, ◌<◌, ◌≤◌, refl, arith, ℕ, List, [], ◌∷◌, length}
use Rattle.std.specs.Prelude.{string_bytes}
use Rattle.std.proofs.lemmas.List.{length-map}
use Rattle.tracker_session.specs.Words.{line_of, other, texts}
use Rattle.tracker_session.proofs.words.parse_words.Goals as goal
use Rattle.tracker_session.proofs.words.parse_words.Goals.{in_default-via-then-words-lt2, in_default-via-else-words-lt2+else-words-lt3+then-words-lt5, in_default-via-else-words-lt2+else-words-lt3+else-words-lt5+else-words-lt6+else-words-lt7}

-- no command has one word, none, three, four, or more than six
no_line : (words : List (List ℕ)) → (length words ≡ 2 → ⊥) → (length words ≡ 5 → ⊥) → (length words ≡ 6 → ⊥) → line_of words ≡ other
no_line [] two five six = refl
no_line (a ∷ []) two five six = refl
no_line (a ∷ b ∷ []) two five six = absurd (two refl)
no_line (a ∷ b ∷ c ∷ []) two five six = refl
no_line (a ∷ b ∷ c ∷ d ∷ []) two five six = refl
no_line (a ∷ b ∷ c ∷ d ∷ e ∷ []) two five six = absurd (five refl)
no_line (a ∷ b ∷ c ∷ d ∷ e ∷ f ∷ []) two five six = absurd (six refl)
no_line (a ∷ b ∷ c ∷ d ∷ e ∷ f ∷ g ∷ more) two five six = refl

pub returns-in_default-clause-words : goal.returns-in_default-clause-words
returns-in_default-clause-words c =
    let words = c.args.words.now in
    let many = length-map words (λ word. string_bytes word) in
    elim c.in_default.branch [
      | in_default-via-then-words-lt2 w ↦ (let few : length words < 2 = search rules in no_line (texts words) (λ e. omega (arith, e, few, many)) (λ e. omega (arith, e, few, many)) (λ e. omega (arith, e, few, many)))
      | in_default-via-else-words-lt2+else-words-lt3+then-words-lt5 w ↦ (
          let some : 3 ≤ length words = search rules in
          let few : length words < 5 = search rules in
          no_line (texts words) (λ e. omega (arith, e, some, many)) (λ e. omega (arith, e, few, many)) (λ e. omega (arith, e, few, many)))
      | in_default-via-else-words-lt2+else-words-lt3+else-words-lt5+else-words-lt6+else-words-lt7 w ↦ (let some : 7 ≤ length words = search rules in no_line (texts words) (λ e. omega (arith, e, some, many)) (λ e. omega (arith, e, some, many)) (λ e. omega (arith, e, some, many)))
    ]
