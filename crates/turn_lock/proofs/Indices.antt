-- The index of the event that a turn adds.
use Rattle.std.proofs.Common.{◌≡◌, ◌≢◌, ◌⊎◌, ℕ, ◌+◌, ◌<◌, ◌≤◌, true, false, true≢false, List, [], ◌∷◌, ◌++◌, sym, refl, ap, ◌∙◌, inl, inr, arith, eq-eqb, ne_eqb}
use Rattle.std.specs.Prelude.{if◌then◌else◌}
use mathlib.Core.Logic.{dite}
use native.Mathlib.Decide.{ℕ_discrete}
use Rattle.turn_lock.specs.Lists.{is_member, count_of}
use Rattle.turn_lock.specs.Steps.{new_index}
use Rattle.turn_lock.proofs.Lists.{is_member_one, is_member_first, count_of-append, is_member_counted, count_of_one, count_of_other}

-- an index that was in none of these is added at most once
pub once_more : (p : ℕ) (mine : List ℕ) (old new : ℕ) → count_of p mine ≤ 1 → (is_member p mine ≡ true → p < old) → count_of p (mine ++ new_index old new) ≤ 1
once_more p mine old new few low = go (ℕ_discrete old new) (dite (ℕ_discrete (count_of p mine) 0) (λ z. inl z) (λ n. inr (low (is_member_counted p mine (omega arith)))))
  where
    go : Dec (old ≡ new) → (count_of p mine ≡ 0) ⊎ (p < old) → count_of p (mine ++ new_index old new) ≤ 1
    go (yes e) h = let g : count_of p (new_index old new) ≡ 0 = ap (λ z. count_of p (if z then [] else old ∷ [])) (eq-eqb old new e) in let t = count_of-append p mine (new_index old new) in omega arith
    go (no n) (inl z) = let g : count_of p (new_index old new) ≡ count_of p (old ∷ []) = ap (λ z. count_of p (if z then [] else old ∷ [])) (ne_eqb old new n) in let o = count_of_one p old in let t = count_of-append p mine (new_index old new) in omega arith
    go (no n) (inr l) = let g : count_of p (new_index old new) ≡ count_of p (old ∷ []) = ap (λ z. count_of p (if z then [] else old ∷ [])) (ne_eqb old new n) in
        let o : count_of p (old ∷ []) ≡ 0 = count_of_other p old (λ e. omega arith) in let t = count_of-append p mine (new_index old new) in omega arith

pub new_index_has : (p old new : ℕ) → is_member p (new_index old new) ≡ true → (p ≡ old) × (old ≢ new)
new_index_has p old new h = dite (ℕ_discrete old new)
    (λ e. absurd (true≢false (sym h ∙ ap (λ z. is_member p (if z then [] else old ∷ [])) (eq-eqb old new e))))
    (λ n. (is_member_one p old (sym (ap (λ z. is_member p (if z then [] else old ∷ [])) (ne_eqb old new n)) ∙ h), n))

pub new_index_there : (old new : ℕ) → old ≢ new → is_member old (new_index old new) ≡ true
new_index_there old new n = ap (λ z. is_member old (if z then [] else old ∷ [])) (ne_eqb old new n) ∙ is_member_first old old [] refl
