-- Items picked by their numbers.
use Rattle.std.proofs.Common.{◌≡◌, ◌∙◌, ap, sym, refl, ℕ, ◌<◌, ◌≤◌, List, [], ◌∷◌, ◌++◌, length, drop, get_or, Bool, true, false, cond, arith}
use Rattle.std.specs.List.{AllByRecursion}
use Rattle.std.specs.declared.cmp.Ordering.{Ordering}
use Rattle.std.proofs.lemmas.Bool.{cond_both}
use Rattle.late_window.specs.Folding.{ComesBefore, Rises, BeforeFirst}
use Rattle.late_window.proofs.Groups.{SlotsRise}
use Rattle.span_clusters.specs.Parts.{picked_items}

module _ {I : Type 0} where
  pub cut_first : (xs : List I) (x : I) → 0 < length xs → x ≡ get_or xs 0 x → xs ≡ x ∷ drop 1 xs
  cut_first [] x l e = absurd (omega (arith, l))
  cut_first (y ∷ xs) x l e = ap (λ z. z ∷ xs) (sym e)

  pub all_picked : (P : I → Type 0) (f : ℕ → Bool) (numbers : List ℕ) (xs : List I) → AllByRecursion P xs → AllByRecursion P (picked_items f numbers xs)
  all_picked P f [] xs h = tt
  all_picked P f (k ∷ numbers) [] h = tt
  all_picked P f (k ∷ numbers) (x ∷ xs) h = cond_both (f k) (x ∷ picked_items f numbers xs) (picked_items f numbers xs) (AllByRecursion P) (λ e. (h.0, all_picked P f numbers xs h.1)) (λ e. all_picked P f numbers xs h.1)

  pub picked_rise : {K : Type 0} (cmp : I → I → Ordering) (key : I → K) (f : ℕ → Bool) (numbers : List ℕ) (xs : List I) → Rises cmp key xs → Rises cmp key (picked_items f numbers xs)
  picked_rise cmp key f [] xs h = tt
  picked_rise cmp key f (k ∷ numbers) [] h = tt
  picked_rise cmp key f (k ∷ numbers) (x ∷ xs) h =
      cond_both (f k) (x ∷ picked_items f numbers xs) (picked_items f numbers xs) (Rises cmp key) (λ e. (all_picked (ComesBefore cmp key x) f numbers xs h.0, picked_rise cmp key f numbers xs h.1)) (λ e. picked_rise cmp key f numbers xs h.1)

  -- what is before the first item's slot is before those of all
  pub before_each : {S : Type 0} (slot : I → ℕ) (is_before : S → ℕ → Type 0) → ((s : S) (a b : ℕ) → a ≤ b → is_before s a → is_before s b) → (s : S) (xs : List I) → SlotsRise slot xs → BeforeFirst is_before slot s xs → AllByRecursion (λ x. is_before s (slot x)) xs
  before_each slot is_before stays s [] r b = tt
  before_each slot is_before stays s (x ∷ xs) r b = (b, later xs r.0)
    where
      later : (ys : List I) → AllByRecursion (λ y. slot x ≤ slot y) ys → AllByRecursion (λ y. is_before s (slot y)) ys
      later [] h = tt
      later (y ∷ ys) h = (stays s (slot x) (slot y) h.0 b, later ys h.1)

  pub first_of : {S : Type 0} (slot : I → ℕ) (is_before : S → ℕ → Type 0) (s : S) (xs : List I) → AllByRecursion (λ x. is_before s (slot x)) xs → BeforeFirst is_before slot s xs
  first_of slot is_before s [] h = tt
  first_of slot is_before s (x ∷ xs) h = h.0

  pub none_left : (f : ℕ → Bool) (numbers : List ℕ) (xs out : List I) → length xs ≡ 0 → out ++ picked_items f numbers xs ≡ out
  none_left f [] xs out e = end out
    where
      end : (ys : List I) → ys ++ [] ≡ ys
      end [] = refl
      end (y ∷ ys) = ap (λ (l : List I). y ∷ l) (end ys)
  none_left f (k ∷ numbers) [] out e = end out
    where
      end : (ys : List I) → ys ++ [] ≡ ys
      end [] = refl
      end (y ∷ ys) = ap (λ (l : List I). y ∷ l) (end ys)
  none_left f (k ∷ numbers) (x ∷ xs) out e = absurd (omega (arith, e))

  joined_again : (xs : List I) (x : I) (ys : List I) → (xs ++ x ∷ []) ++ ys ≡ xs ++ x ∷ ys
  joined_again [] x ys = refl
  joined_again (z ∷ xs) x ys = ap (λ (l : List I). z ∷ l) (joined_again xs x ys)

  -- one more number and its item
  pub picked_one : (f : ℕ → Bool) (rest : List ℕ) (left out whole : List I) (k : ℕ) (x : I) → 0 < length rest → k ≡ get_or rest 0 k → 0 < length left → x ≡ get_or left 0 x → f k ≡ true → out ++ picked_items f rest left ≡ whole → (out ++ x ∷ []) ++ picked_items f (drop 1 rest) (drop 1 left) ≡ whole
  picked_one f [] left out whole k x lr er ll el t e = absurd (omega (arith, lr))
  picked_one f (j ∷ rest) [] out whole k x lr er ll el t e = absurd (omega (arith, ll))
  picked_one f (j ∷ rest) (y ∷ left) out whole k x lr er ll el t e =
      let g : f j ≡ true = ap f (sym er) ∙ t in
      joined_again out x (picked_items f rest left) ∙ (λ i. out ++ el i ∷ picked_items f rest left) ∙ (λ i. out ++ cond (sym g i) (y ∷ picked_items f rest left) (picked_items f rest left)) ∙ e

  pub passed_one : (f : ℕ → Bool) (rest : List ℕ) (left out whole : List I) (k : ℕ) → 0 < length rest → k ≡ get_or rest 0 k → 0 < length left → f k ≡ false → out ++ picked_items f rest left ≡ whole → out ++ picked_items f (drop 1 rest) (drop 1 left) ≡ whole
  passed_one f [] left out whole k lr er ll t e = absurd (omega (arith, lr))
  passed_one f (j ∷ rest) [] out whole k lr er ll t e = absurd (omega (arith, ll))
  passed_one f (j ∷ rest) (y ∷ left) out whole k lr er ll t e =
      let g : f j ≡ false = ap f (sym er) ∙ t in
      (λ i. out ++ cond (sym g i) (y ∷ picked_items f rest left) (picked_items f rest left)) ∙ e
