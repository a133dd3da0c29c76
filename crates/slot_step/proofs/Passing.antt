-- What a test keeps of a list, where all that pass stand before all that fail.
use Rattle.std.proofs.Common.{◌≡◌, ◌∙◌, ap, sym, refl, ℕ, zero, suc, ◌≤◌, Bool, true, false, cond, List, [], ◌∷◌, ◌++◌, length, take, drop, arith}
use Rattle.std.specs.List.{AllByRecursion, AllWithin, filter}
use Rattle.std.proofs.lemmas.List.{append-nil, take-append-drop}
use Rattle.std.proofs.lemmas.List.Elements.{filter-append}

module _ {X : Type 0} (p : X → Bool) where
  pub all_pass : (xs : List X) → AllByRecursion (λ x. p x ≡ true) xs → filter p xs ≡ xs
  all_pass [] h = refl
  all_pass (x ∷ xs) h = ap (λ b. cond b (x ∷ filter p xs) (filter p xs)) h.0 ∙ ap (λ (ys : List X). x ∷ ys) (all_pass xs h.1)

  pub none_pass : (xs : List X) → AllByRecursion (λ x. p x ≡ false) xs → filter p xs ≡ []
  none_pass [] h = refl
  none_pass (x ∷ xs) h = ap (λ b. cond b (x ∷ filter p xs) (filter p xs)) h.0 ∙ none_pass xs h.1

  pub halves : (k : ℕ) (xs : List X) → k ≤ length xs → AllWithin (λ x. p x ≡ true) xs 0 k → AllWithin (λ x. p x ≡ false) xs k (length xs) → AllByRecursion (λ x. p x ≡ true) (take k xs) × AllByRecursion (λ x. p x ≡ false) (drop k xs)
  halves zero [] le h g = (tt, tt)
  halves (suc k) [] le h g = (tt, tt)
  halves zero (x ∷ xs) le h g = (tt, (g 0 x (omega arith) (omega arith), (halves zero xs (omega arith) (λ j d l r. absurd (omega (arith, r))) (λ j d l r. g (suc j) d (omega arith) (omega (arith, r)))).1))
  halves (suc k) (x ∷ xs) le h g =
      let rest = halves k xs (omega (arith, le)) (λ j d l r. h (suc j) d (omega arith) (omega (arith, r))) (λ j d l r. g (suc j) d (omega (arith, l)) (omega (arith, r))) in
      ((h 0 x (omega arith) (omega arith), rest.0), rest.1)

  -- what passes is what stands before
  pub passing : (k : ℕ) (xs : List X) → AllByRecursion (λ x. p x ≡ true) (take k xs) → AllByRecursion (λ x. p x ≡ false) (drop k xs) → filter p xs ≡ take k xs
  passing k xs h g =
      ap (filter p) (sym (take-append-drop k xs)) ∙ filter-append p (take k xs) (drop k xs) ∙ ap (λ (ys : List X). ys ++ filter p (drop k xs)) (all_pass (take k xs) h)
      ∙ ap (λ (ys : List X). take k xs ++ ys) (none_pass (drop k xs) g) ∙ append-nil (take k xs)

  -- where all that stand before fail
  pub passing_rest : (k : ℕ) (xs : List X) → AllByRecursion (λ x. p x ≡ false) (take k xs) → filter p xs ≡ filter p (drop k xs)
  passing_rest k xs h = ap (filter p) (sym (take-append-drop k xs)) ∙ filter-append p (take k xs) (drop k xs) ∙ ap (λ (ys : List X). ys ++ filter p (drop k xs)) (none_pass (take k xs) h)
