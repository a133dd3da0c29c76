-- What is left of a run after its first slot.
use Rattle.std.proofs.Common.{◌≡◌, ◌∙◌, ap, sym, ℕ, ◌<◌, ◌≤◌, List, [], ◌∷◌, length, drop, get_or, arith, eqb, true}
use Rattle.std.specs.List.{AllByRecursion}
use Rattle.std.specs.declared.cmp.Ordering.{Ordering}
use Rattle.std.proofs.lemmas.Bool.{eqb-true}
use Rattle.late_window.specs.Folding.{before, states, group_count}
use Rattle.late_window.proofs.Groups.{Begins, group, others, states_group, before_group, at_rest, drop_rises, weaker}
use Rattle.span_clusters.specs.Runs.{IsLeftOf}

pub is_none : {X : Type 0} (xs : List X) → true ≡ eqb (length xs) 0 → xs ≡ []
is_none [] h = cc
is_none (x ∷ xs) h = absurd (let e : length (x ∷ xs) ≡ 0 = eqb-true _ _ (sym h) in omega arith)

module _ {S I O K : Type 0} (slot : I → ℕ) (next : S → ℕ → List I → S) (is_out : S → ℕ → List I → O → Type 0) (cmp : I → I → Ordering) (key : I → K) (s : S) (xs : List I) where
  pub some_left : (t : S) (k n : ℕ) (ys : List I) (left : List S) → Begins slot next is_out t k ys → IsLeftOf next slot cmp key s xs n t ys left → 1 ≤ length left
  some_left t k n ys left b l = let e = ap length l.run ∙ ap length (states_group slot next is_out t k ys b) in omega (arith, e)

  pub passed : (t u : S) (k n : ℕ) (ys : List I) (left : List S) → Begins slot next is_out t k ys → k < n → IsLeftOf next slot cmp key s xs n t ys left → u ≡ get_or left 0 u
      → IsLeftOf next slot cmp key s xs n u (others slot next is_out k ys) (drop 1 left)
  passed t u k n ys left b lt l e =
      let h : S = next t k (group slot next is_out k ys) in
      let hs : List S = states next slot h (others slot next is_out k ys) in
      let all : left ≡ h ∷ hs = l.run ∙ states_group slot next is_out t k ys b in
      let head : u ≡ h = e ∙ ap (λ (ss : List S). get_or ss 0 u) all in
      record {
        same = λ m le. ap (λ v. before next slot v (others slot next is_out k ys) m) head ∙ sym (before_group slot next is_out t k m ys b (omega (arith, lt, le))) ∙ l.same m le;
        items = λ m le. at_rest slot k m ys (omega (arith, lt, le)) ∙ l.items m le;
        run = ap (drop 1) all ∙ ap (λ v. states next slot v (others slot next is_out k ys)) (sym head);
        rising = drop_rises cmp key (group_count slot k ys) ys l.rising;
      }

  pub all_above : (k n : ℕ) (ys : List I) → AllByRecursion (λ y. k ≤ slot y) ys → n ≤ k → AllByRecursion (λ y. n ≤ slot y) ys
  all_above k n ys h le = weaker (λ y. k ≤ slot y) (λ y. n ≤ slot y) ys (λ y g. omega (arith, g, le)) h
