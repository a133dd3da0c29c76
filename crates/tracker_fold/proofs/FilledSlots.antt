-- The filled slots of items: each once, in rising order.
use Rattle.std.proofs.Common.{◌≡◌, ◌∙◌, ap, sym, subst, refl, ℕ, ◌<◌, ◌≤◌, Bool, true, false, cond, eqb, List, [], ◌∷◌, inl, inr, arith}
use Rattle.std.specs.Prelude.{filter, Contains}
use Rattle.std.specs.List.{AllByRecursion}
use Rattle.std.specs.List.Sorted.{IsStrictlySortedBy, IsStrictlyIncreasing}
use Rattle.std.specs.Ordering.{nat_cmp}
use Rattle.std.specs.declared.cmp.Ordering.TheVariants.{Less, Equal, Greater}
use Rattle.std.proofs.lemmas.Bool.{cond_both, cases_Bool, cases_lt, eqb-true, eqb-false, eq-eqb, lt-ltb, le-ltb}
use Rattle.std.proofs.lemmas.Map.Keys.{IsStrictlyIncreasing-from_sorted, sorted_from_strictly_increasing}
use Rattle.late_window.specs.Folding.{at_slot, with_slot, slots}
use Rattle.late_window.proofs.Cuts.{slots_all}
use Rattle.late_window.proofs.Groups.{SlotsRise}
use Rattle.slot_step.proofs.Interleavings.{contains_first, contains_later, contains_cons, contains_none, all_contains, all_of, all_weaker}

-- whether there is one
abbrev pub some : {X : Type 0} → List X → Bool
some [] = false
some (x ∷ xs) = true

pub filtered : {X : Type 0} (f : X → Bool) (y : X) (xs : List X) → f y ≡ true → Contains xs y → Contains (filter f xs) y
filtered f y [] t c = contains_none y c
filtered f y (x ∷ xs) t c = elim (contains_cons x y xs c) [
  | inl e ↦ cond_both (f x) (x ∷ filter f xs) (filter f xs) (λ l. Contains l y) (λ _. contains_first x y (filter f xs) e) (λ u. absurd (let clash : true ≡ false = sym t ∙ ap f (sym e) ∙ u in cc))
  | inr more ↦ cond_both (f x) (x ∷ filter f xs) (filter f xs) (λ l. Contains l y) (λ _. contains_later x y (filter f xs) (filtered f y xs t more)) (λ _. filtered f y xs t more)
]

-- ---- rising

abbrev Strict : List ℕ → Type 0
Strict [] = Unit {0}
Strict (n ∷ ns) = AllByRecursion (λ m. n < m) ns × Strict ns

less : (n m : ℕ) → n < m → nat_cmp n m ≡ Less
less n m lt = rw (lt-ltb n m lt) refl

sorted : (ns : List ℕ) → Strict ns → IsStrictlySortedBy nat_cmp ns
unfolding IsStrictlySortedBy
sorted [] h = tt
sorted (n ∷ ns) h = (all_weaker (λ m. n < m) (λ m. nat_cmp n m ≡ Less) ns (less n) h.0, sorted ns h.1)

with_strict : (n : ℕ) (ns : List ℕ) → AllByRecursion (λ m. n ≤ m) ns → Strict ns → Strict (with_slot n ns)
with_strict n [] le h = (tt, tt)
with_strict n (m ∷ ns) le h = cond_both (eqb n m) (m ∷ ns) (n ∷ m ∷ ns) Strict (λ _. h)
    (λ apart. (let lt : n < m = omega (arith, le.0, eqb-false n m apart) in (lt, all_weaker (λ k. m < k) (λ k. n < k) ns (λ k g. omega (arith, lt, g)) h.0), h))

less_is : (n m : ℕ) → nat_cmp n m ≡ Less → n < m
less_is n m h = elim (cases_lt n m) [
  | inl lt ↦ lt
  | inr ge ↦ absurd (cond_both (eqb n m) Equal Greater (λ o. o ≡ Less → ⊥) (λ _ e. cc) (λ _ e. cc) (sym (rw (le-ltb n m ge) refl) ∙ h))
]

strict_of : (ns : List ℕ) → IsStrictlySortedBy nat_cmp ns → Strict ns
unfolding IsStrictlySortedBy
strict_of [] h = tt
strict_of (n ∷ ns) h = (all_weaker (λ m. nat_cmp n m ≡ Less) (λ m. n < m) ns (less_is n) h.0, strict_of ns h.1)

least : (n : ℕ) (ns : List ℕ) (m : ℕ) → Strict (n ∷ ns) → Contains (n ∷ ns) m → n ≤ m
least n ns m h c = elim (contains_cons n m ns c) [ inl e ↦ omega (arith, e) | inr more ↦ (let lt : n < m = all_contains (λ k. n < k) m ns h.0 more in omega (arith, lt)) ]

-- those of a rising list behind its first
behind : (n m : ℕ) (ns ms : List ℕ) → n ≡ m → Strict (n ∷ ns) → ((k : ℕ) → Contains (n ∷ ns) k → Contains (m ∷ ms) k) → (k : ℕ) → Contains ns k → Contains ms k
behind n m ns ms e h to k c = elim (contains_cons m k ms (to k (contains_later n k ns c))) [
  | inl same ↦ absurd (let lt : n < k = all_contains (λ k. n < k) k ns h.0 c in omega (arith, lt, e, same))
  | inr more ↦ more
]

same_strict : (ns ms : List ℕ) → Strict ns → Strict ms → ((k : ℕ) → Contains ns k → Contains ms k) → ((k : ℕ) → Contains ms k → Contains ns k) → ns ≡ ms
same_strict [] [] h g to back = refl
same_strict [] (m ∷ ms) h g to back = contains_none m (back m (contains_first m m ms refl))
same_strict (n ∷ ns) [] h g to back = contains_none n (to n (contains_first n n ns refl))
same_strict (n ∷ ns) (m ∷ ms) h g to back =
    let low : m ≤ n = least m ms n g (to n (contains_first n n ns refl)) in
    let high : n ≤ m = least n ns m h (back m (contains_first m m ms refl)) in
    let e : n ≡ m = omega (arith, low, high) in
    let rest = same_strict ns ms h.1 g.1 (behind n m ns ms e h to) (behind m n ms ns (sym e) g back) in
    λ i. e i ∷ rest i

-- rising lists with the same members are one
pub same_rising : (ns ms : List ℕ) → IsStrictlyIncreasing ns → IsStrictlyIncreasing ms → ((k : ℕ) → Contains ns k → Contains ms k) → ((k : ℕ) → Contains ms k → Contains ns k) → ns ≡ ms
same_rising ns ms h g to back = same_strict ns ms (strict_of ns (sorted_from_strictly_increasing ns h)) (strict_of ms (sorted_from_strictly_increasing ms g)) to back

module _ {I : Type 0} (slot : I → ℕ) where
  strict : (xs : List I) → SlotsRise slot xs → Strict (slots slot xs)
  unfolding slots
  strict [] h = tt
  strict (x ∷ xs) h = with_strict (slot x) (slots slot xs) (slots_all slot (λ n. slot x ≤ n) xs h.0) (strict xs h.1)

  pub slots_increase : (xs : List I) → SlotsRise slot xs → IsStrictlyIncreasing (slots slot xs)
  slots_increase xs h = IsStrictlyIncreasing-from_sorted (slots slot xs) (sorted (slots slot xs) (strict xs h))

  -- ---- members

  own_in : (n : ℕ) (ns : List ℕ) → Contains (with_slot n ns) n
  own_in n [] = contains_first n n [] refl
  own_in n (m ∷ ns) = cond_both (eqb n m) (m ∷ ns) (n ∷ m ∷ ns) (λ l. Contains l n) (λ e. contains_first m n ns (sym (eqb-true n m e))) (λ _. contains_first n n (m ∷ ns) refl)

  others_in : (n k : ℕ) (ns : List ℕ) → Contains ns k → Contains (with_slot n ns) k
  others_in n k [] c = contains_none k c
  others_in n k (m ∷ ns) c = cond_both (eqb n m) (m ∷ ns) (n ∷ m ∷ ns) (λ l. Contains l k) (λ _. c) (λ _. contains_later n k (m ∷ ns) c)

  pub slots_have : (n : ℕ) (xs : List I) → some (at_slot slot n xs) ≡ true → Contains (slots slot xs) n
  unfolding slots
  slots_have n [] h = absurd (cc)
  slots_have n (x ∷ xs) h = elim (cases_Bool (eqb (slot x) n)) [
    | inl e ↦ subst (λ (m : ℕ). Contains (with_slot (slot x) (slots slot xs)) m) (eqb-true (slot x) n e) (own_in (slot x) (slots slot xs))
    | inr e ↦ others_in (slot x) n (slots slot xs) (slots_have n xs (ap (λ b. some (cond b (x ∷ at_slot slot n xs) (at_slot slot n xs))) (sym e) ∙ h))
  ]

  some_at : (x : I) (xs : List I) → Contains xs x → some (at_slot slot (slot x) xs) ≡ true
  some_at x [] c = contains_none x c
  some_at x (y ∷ xs) c = elim (contains_cons y x xs c) [
    | inl e ↦ rw (eq-eqb (slot y) (slot x) (ap slot e)) refl
    | inr more ↦ cond_both (eqb (slot y) (slot x)) (y ∷ at_slot slot (slot x) xs) (at_slot slot (slot x) xs) (λ l. some l ≡ true) (λ _. refl) (λ _. some_at x xs more)
  ]

  pub slots_only : (n : ℕ) (xs : List I) → Contains (slots slot xs) n → some (at_slot slot n xs) ≡ true
  slots_only n xs c = all_contains (λ m. some (at_slot slot m xs) ≡ true) n (slots slot xs) (slots_all slot (λ m. some (at_slot slot m xs) ≡ true) xs (all_of (λ x. some (at_slot slot (slot x) xs) ≡ true) xs (λ x d. some_at x xs d))) c

  -- an item of the slot
  pub record OfSlot (n : ℕ) (xs : List I) : Type 0 where
    pub item : I
    pub there : Contains xs item
    pub of_slot : slot item ≡ n

  pub taken : (n : ℕ) (xs : List I) → some (at_slot slot n xs) ≡ true → OfSlot n xs
  taken n [] h = absurd (cc)
  taken n (x ∷ xs) h = elim (cases_Bool (eqb (slot x) n)) [
    | inl e ↦ record { item = x; there = contains_first x x xs refl; of_slot = eqb-true (slot x) n e }
    | inr e ↦ (let rest = taken n xs (ap (λ b. some (cond b (x ∷ at_slot slot n xs) (at_slot slot n xs))) (sym e) ∙ h) in
        record { item = rest.item; there = contains_later x rest.item xs rest.there; of_slot = rest.of_slot })
  ]
