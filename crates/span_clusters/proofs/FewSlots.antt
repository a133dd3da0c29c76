-- A part fills at most the slots of the whole.
use Rattle.std.proofs.Common.{◌≡◌, refl, sym, subst, ℕ, ◌+◌, ◌*◌, ◌≤◌, List, [], ◌∷◌, ◌++◌, length, false, eqb, arith}
use Rattle.std.specs.List.{AllByRecursion}
use Rattle.std.proofs.lemmas.Bool.{eqb-true, eq-eqb, cond_both}
use Rattle.late_window.specs.Folding.{with_slot, slots}
use Rattle.span_clusters.specs.Interleavings.{Interleaved, AllInterleaved}
use Rattle.span_clusters.specs.Interleavings.Interleaved.{neither, first, second}
use Rattle.span_clusters.specs.Parts.{Part, all_items}
use Rattle.span_clusters.specs.Jobs.{filled_slots}
use Rattle.span_clusters.proofs.Interleavings.{swapped}

-- no more slots, also behind one more
record Fewer (ms ns : List ℕ) : Type 0 where
  fewer : length ms ≤ length ns
  behind : (n : ℕ) → length (with_slot n ms) ≤ length (with_slot n ns)

most_one : (n : ℕ) (ms : List ℕ) → length (with_slot n ms) ≤ length ms + 1
most_one n [] = omega arith
most_one n (m ∷ ms) = cond_both (eqb n m) (m ∷ ms) (n ∷ m ∷ ms) (λ l. length l ≤ length (m ∷ ms) + 1) (λ e. omega arith) (λ e. omega arith)

no_less : (n : ℕ) (ms : List ℕ) → length ms ≤ length (with_slot n ms)
no_less n [] = omega arith
no_less n (m ∷ ms) = cond_both (eqb n m) (m ∷ ms) (n ∷ m ∷ ms) (λ l. length (m ∷ ms) ≤ length l) (λ e. omega arith) (λ e. omega arith)

twice : (n : ℕ) (ms : List ℕ) → with_slot n (with_slot n ms) ≡ with_slot n ms
twice n [] = rw (eq-eqb n n refl) refl
twice n (m ∷ ms) = cond_both (eqb n m) (m ∷ ms) (n ∷ m ∷ ms) (λ l. with_slot n l ≡ l) (λ e. rw e refl) (λ e. rw (eq-eqb n n refl) refl)

another : (k n : ℕ) (ms : List ℕ) → eqb k n ≡ false → with_slot k (with_slot n ms) ≡ k ∷ with_slot n ms
another k n [] f = rw f refl
another k n (m ∷ ms) f = cond_both (eqb n m) (m ∷ ms) (n ∷ m ∷ ms) (λ l. with_slot k l ≡ k ∷ l) (λ e. let g : eqb k m ≡ false = subst (λ z. eqb k z ≡ false) (eqb-true n m e) f in rw g refl) (λ e. rw f refl)

none_fewer : Fewer [] []
none_fewer = record { fewer = omega arith; behind = λ n. omega arith }

both_fewer : (n : ℕ) (ms ns : List ℕ) → Fewer ms ns → Fewer (with_slot n ms) (with_slot n ns)
both_fewer n ms ns f = record {
  fewer = f.behind n;
  behind = λ k. cond_both {A = ℕ} (eqb k n) 0 0 (λ u. length (with_slot k (with_slot n ms)) ≤ length (with_slot k (with_slot n ns)))
      (λ e. subst (λ j. length (with_slot j (with_slot n ms)) ≤ length (with_slot j (with_slot n ns))) (sym (eqb-true k n e)) (rw (twice n ms, twice n ns) (f.behind n)))
      (λ e. let b = f.behind n in rw (another k n ms e, another k n ns e) (omega (arith, b)));
}

second_fewer : (n : ℕ) (ms ns : List ℕ) → Fewer ms ns → Fewer ms (with_slot n ns)
second_fewer n ms ns f = record {
  fewer = let a = f.fewer in let b = no_less n ns in omega (arith, a, b);
  behind = λ k. cond_both {A = ℕ} (eqb k n) 0 0 (λ u. length (with_slot k ms) ≤ length (with_slot k (with_slot n ns)))
      (λ e. subst (λ j. length (with_slot j ms) ≤ length (with_slot j (with_slot n ns))) (sym (eqb-true k n e)) (rw (twice n ns) (f.behind n)))
      (λ e. let b = f.behind k in let m = most_one k ns in let l = no_less n ns in rw (another k n ns e) (omega (arith, b, m, l)));
}

module _ {I : Type 0} (slot : I → ℕ) where
  slots_fewer : (xs ys zs : List I) → Interleaved xs ys zs → Fewer (slots slot xs) (slots slot zs)
  unfolding slots
  slots_fewer _ _ _ neither = none_fewer
  slots_fewer _ _ _ (first x xs ys zs m) = both_fewer (slot x) (slots slot xs) (slots slot zs) (slots_fewer xs ys zs m)
  slots_fewer _ _ _ (second y xs ys zs m) = second_fewer (slot y) (slots slot xs) (slots slot zs) (slots_fewer xs ys zs m)

  pub few_of_one : (xs ys zs : List I) → Interleaved xs ys zs → length (slots slot xs) ≤ length (slots slot zs)
  few_of_one xs ys zs m = (slots_fewer xs ys zs m).fewer

  at_most : {S : Type 0} (a b : ℕ) → a ≤ b → (parts : List (Part S I)) → AllByRecursion (λ p. length (slots slot p.items) ≤ a) parts → AllByRecursion (λ p. length (slots slot p.items) ≤ b) parts
  at_most a b l [] h = tt
  at_most a b l (p ∷ parts) h = (let k = h.0 in omega (arith, k, l), at_most a b l parts h.1)

  pub few_of_each : {S : Type 0} (parts : List (Part S I)) (zs : List I) → AllInterleaved (all_items parts) zs → AllByRecursion (λ p. length (slots slot p.items) ≤ length (slots slot zs)) parts
  few_of_each [] zs m = tt
  few_of_each (p ∷ parts) zs m = (few_of_one p.items m.0 zs m.1, at_most (length (slots slot m.0)) (length (slots slot zs)) (few_of_one m.0 p.items zs (swapped p.items m.0 zs m.1)) parts (few_of_each parts m.0 m.2))

  pub few_together : {S : Type 0} (most : ℕ) (parts : List (Part S I)) → AllByRecursion (λ p. length (slots slot p.items) ≤ most) parts → filled_slots slot parts ≤ length parts * most
  few_together most [] h = omega arith
  few_together most (p ∷ parts) h = let k = h.0 in let r = few_together most parts h.1 in omega (arith, k, r)

  pub filled_more : {S : Type 0} (parts : List (Part S I)) (p : Part S I) → filled_slots slot (parts ++ p ∷ []) ≡ filled_slots slot parts + length (slots slot p.items)
  filled_more [] p = omega arith
  filled_more (q ∷ parts) p = let r = filled_more parts p in omega (arith, r)
