-- A fold that is cut at a slot: a late item changes no state before its slot, and the state at the cut stands for all below it.
use Rattle.std.proofs.Common.{◌≡◌, ◌∙◌, ap, sym, refl, subst, ℕ, zero, suc, ◌≤◌, ◌<◌, List, [], ◌∷◌, ◌++◌, Bool, true, false, cond, eqb, ltb, leb, length, take, drop, map, append-nil, arith, inl, inr}
use Rattle.std.specs.Prelude.{filter, Some, option_map}
use Rattle.late_window.specs.Windows.{first}
use Rattle.std.specs.List.{slice_get}
use Rattle.std.specs.List.{AllByRecursion, insert}
use Rattle.std.proofs.lemmas.Bool.{eqb-true, eq-eqb, cases_Bool, cond_both, le-leb, lt-leb, lt-ltb, le-ltb, leb-true, ltb-true, cases_lt, ne_eqb}
use Rattle.std.proofs.lemmas.List.{map-append, take-append-drop}
use Rattle.late_window.specs.Folding.{at_slot, below, from, stepped, before, after, with_slot, slots, states, OutsAt, AreOutsOf, latest}
use Rattle.late_window.proofs.Groups.{SlotsRise}
use Rattle.late_window.proofs.Latest.{latest_append}
use Rattle.late_window.proofs.Lists.{all_weaker, all_both, filter_all, filter_none, filter_append, filter_passing, filter_keeps}

module _ {I : Type 0} (slot : I → ℕ) where
  pub below_all : (n : ℕ) (xs : List I) → AllByRecursion (λ x. slot x < n) xs → below slot n xs ≡ xs
  below_all n xs h = filter_all (λ x. ltb (slot x) n) xs (all_weaker (λ x. slot x < n) (λ x. ltb (slot x) n ≡ true) (λ x l. lt-ltb (slot x) n l) xs h)

  pub below_none : (n : ℕ) (xs : List I) → AllByRecursion (λ x. n ≤ slot x) xs → below slot n xs ≡ []
  below_none n xs h = filter_none (λ x. ltb (slot x) n) xs (all_weaker (λ x. n ≤ slot x) (λ x. ltb (slot x) n ≡ false) (λ x l. le-ltb (slot x) n l) xs h)

  pub from_all : (n : ℕ) (xs : List I) → AllByRecursion (λ x. n ≤ slot x) xs → from slot n xs ≡ xs
  from_all n xs h = filter_all (λ x. leb n (slot x)) xs (all_weaker (λ x. n ≤ slot x) (λ x. leb n (slot x) ≡ true) (λ x l. le-leb n (slot x) l) xs h)

  pub from_none : (n : ℕ) (xs : List I) → AllByRecursion (λ x. slot x < n) xs → from slot n xs ≡ []
  from_none n xs h = filter_none (λ x. leb n (slot x)) xs (all_weaker (λ x. slot x < n) (λ x. leb n (slot x) ≡ false) (λ x l. lt-leb n (slot x) l) xs h)

  pub below_lt : (n : ℕ) (xs : List I) → AllByRecursion (λ x. slot x < n) (below slot n xs)
  below_lt n xs = all_weaker (λ x. ltb (slot x) n ≡ true) (λ x. slot x < n) (λ x t. ltb-true (slot x) n t) (below slot n xs) (filter_passing (λ x. ltb (slot x) n) xs)

  pub from_le : (n : ℕ) (xs : List I) → AllByRecursion (λ x. n ≤ slot x) (from slot n xs)
  from_le n xs = all_weaker (λ x. leb n (slot x) ≡ true) (λ x. n ≤ slot x) (λ x t. leb-true n (slot x) t) (from slot n xs) (filter_passing (λ x. leb n (slot x)) xs)

  -- items that rise are those below a slot, then the others
  pub cut_at : (n : ℕ) (xs : List I) → SlotsRise slot xs → xs ≡ below slot n xs ++ from slot n xs
  cut_at n [] r = refl
  cut_at n (x ∷ xs) r = elim (cases_lt (slot x) n) [
    | inl lt ↦ rw (lt-ltb (slot x) n lt, lt-leb n (slot x) lt) (ap (λ (l : List I). x ∷ l) (cut_at n xs r.1))
    | inr le ↦
        let up : AllByRecursion (λ y. n ≤ slot y) xs = all_weaker (λ y. slot x ≤ slot y) (λ y. n ≤ slot y) (λ y k. omega (arith, le, k)) xs r.0 in
        rw (le-ltb (slot x) n le, le-leb n (slot x) le) (sym (λ i. below_none n xs up i ++ x ∷ from_all n xs up i))
  ]

  -- two lists, the one below a slot and the other from it on
  pub record AreCut (n : ℕ) (xs ys : List I) : Type 0 where
    pub low : AllByRecursion (λ x. slot x < n) xs
    pub high : AllByRecursion (λ y. n ≤ slot y) ys

  pub cut : (n : ℕ) (xs : List I) → AreCut n (below slot n xs) (from slot n xs)
  cut n xs = record { low = below_lt n xs; high = from_le n xs }

  pub below_cut : (n : ℕ) (xs ys : List I) → AreCut n xs ys → below slot n (xs ++ ys) ≡ xs
  below_cut n xs ys c = filter_append (λ x. ltb (slot x) n) xs ys ∙ (λ i. below_all n xs c.low i ++ below_none n ys c.high i) ∙ append-nil xs

  pub from_cut : (n : ℕ) (xs ys : List I) → AreCut n xs ys → from slot n (xs ++ ys) ≡ ys
  from_cut n xs ys c = filter_append (λ x. leb n (slot x)) xs ys ∙ (λ i. from_none n xs c.low i ++ from_all n ys c.high i)

  pub at_none : (m : ℕ) (xs : List I) → AllByRecursion (λ x. slot x ≡ m → ⊥) xs → at_slot slot m xs ≡ []
  at_none m xs h = filter_none (λ x. eqb (slot x) m) xs (all_weaker (λ x. slot x ≡ m → ⊥) (λ x. eqb (slot x) m ≡ false) (λ x d. ne_eqb (slot x) m d) xs h)

  pub at_low : (n m : ℕ) (xs ys : List I) → AreCut n xs ys → m < n → at_slot slot m (xs ++ ys) ≡ at_slot slot m xs
  at_low n m xs ys c lt =
      let none : at_slot slot m ys ≡ [] = at_none m ys (all_weaker (λ y. n ≤ slot y) (λ y. slot y ≡ m → ⊥) (λ y k e. omega (arith, lt, k, e)) ys c.high) in
      filter_append (λ x. eqb (slot x) m) xs ys ∙ ap (λ l. at_slot slot m xs ++ l) none ∙ append-nil (at_slot slot m xs)

  pub at_high : (n m : ℕ) (xs ys : List I) → AreCut n xs ys → n ≤ m → at_slot slot m (xs ++ ys) ≡ at_slot slot m ys
  at_high n m xs ys c le =
      let none : at_slot slot m xs ≡ [] = at_none m xs (all_weaker (λ x. slot x < n) (λ x. slot x ≡ m → ⊥) (λ x k e. omega (arith, le, k, e)) xs c.low) in
      filter_append (λ x. eqb (slot x) m) xs ys ∙ ap (λ l. l ++ at_slot slot m ys) none

  rise_filter : (p : I → Bool) (xs : List I) → SlotsRise slot xs → SlotsRise slot (filter p xs)
  rise_filter p [] r = tt
  rise_filter p (x ∷ xs) r = cond_both (p x) (x ∷ filter p xs) (filter p xs) (SlotsRise slot) (λ t. (filter_keeps (λ y. slot x ≤ slot y) p xs r.0, rise_filter p xs r.1)) (λ f. rise_filter p xs r.1)

  pub below_rise : (n : ℕ) (xs : List I) → SlotsRise slot xs → SlotsRise slot (below slot n xs)
  below_rise n xs r = rise_filter (λ x. ltb (slot x) n) xs r

  pub from_rise : (n : ℕ) (xs : List I) → SlotsRise slot xs → SlotsRise slot (from slot n xs)
  from_rise n xs r = rise_filter (λ x. leb n (slot x)) xs r

  -- what is below the lower of two slots
  pub below_below : (m n : ℕ) (xs : List I) → m ≤ n → below slot m (below slot n xs) ≡ below slot m xs
  below_below m n [] le = refl
  below_below m n (x ∷ xs) le = elim (cases_lt (slot x) m) [
    | inl lt ↦ rw (lt-ltb (slot x) n (omega (arith, lt, le)), lt-ltb (slot x) m lt) (ap (λ (l : List I). x ∷ l) (below_below m n xs le))
    | inr ge ↦ rw (le-ltb (slot x) m ge) (cond_both (ltb (slot x) n) (x ∷ below slot n xs) (below slot n xs) (λ l. below slot m l ≡ below slot m xs) (λ t. rw (le-ltb (slot x) m ge) (below_below m n xs le)) (λ f. below_below m n xs le))
  ]

  pub from_from : (m n : ℕ) (xs : List I) → m ≤ n → from slot n (from slot m xs) ≡ from slot n xs
  from_from m n [] le = refl
  from_from m n (x ∷ xs) le = elim (cases_lt (slot x) n) [
    | inl lt ↦ rw (lt-leb n (slot x) lt) (cond_both (leb m (slot x)) (x ∷ from slot m xs) (from slot m xs) (λ l. from slot n l ≡ from slot n xs) (λ t. rw (lt-leb n (slot x) lt) (from_from m n xs le)) (λ f. from_from m n xs le))
    | inr ge ↦ rw (le-leb m (slot x) (omega (arith, ge, le)), le-leb n (slot x) ge) (ap (λ (l : List I). x ∷ l) (from_from m n xs le))
  ]

  -- a span from m to n, cut either way first
  pub below_from : (m n : ℕ) (xs : List I) → below slot n (from slot m xs) ≡ from slot m (below slot n xs)
  below_from m n [] = refl
  below_from m n (x ∷ xs) = elim (cases_Bool (leb m (slot x))) [
    | inl t ↦ elim (cases_Bool (ltb (slot x) n)) [
      | inl u ↦ rw (t, u) (rw t (ap (λ (l : List I). x ∷ l) (below_from m n xs)))
      | inr u ↦ rw (t, u) (below_from m n xs)
    ]
    | inr t ↦ elim (cases_Bool (ltb (slot x) n)) [
      | inl u ↦ rw (t, u) (rw t (below_from m n xs))
      | inr u ↦ rw (t, u) (below_from m n xs)
    ]
  ]

  -- an item at or above a slot isn't seen below it
  pub below_insert : (n i : ℕ) (xs : List I) (y : I) → n ≤ slot y → below slot n (insert xs i y) ≡ below slot n xs
  below_insert n i xs y le =
      filter_append (λ x. ltb (slot x) n) (take i xs) (y ∷ drop i xs)
      ∙ ap (λ b. below slot n (take i xs) ++ cond b (y ∷ below slot n (drop i xs)) (below slot n (drop i xs))) (le-ltb (slot y) n le)
      ∙ sym (filter_append (λ x. ltb (slot x) n) (take i xs) (drop i xs)) ∙ ap (below slot n) (take-append-drop i xs)

  -- Filled slots

  with_length : (n : ℕ) (ms : List ℕ) → length (with_slot n ms) ≤ suc (length ms)
  with_length n [] = omega arith
  with_length n (m ∷ ms) = cond_both (eqb n m) (m ∷ ms) (n ∷ m ∷ ms) (λ l. length l ≤ suc (length (m ∷ ms))) (λ t. omega arith) (λ f. omega arith)

  pub slots_within : (xs : List I) → length (slots slot xs) ≤ length xs
  unfolding slots
  slots_within [] = omega arith
  slots_within (x ∷ xs) = omega (arith, with_length (slot x) (slots slot xs), slots_within xs)

  pub no_items : (xs : List I) → true ≡ eqb (length xs) 0 → slots slot xs ≡ []
  unfolding slots
  no_items [] h = refl
  no_items (x ∷ xs) h = absurd (let e : length (x ∷ xs) ≡ 0 = eqb-true _ _ (sym h) in omega (arith, e))

  pub some_items : (xs : List I) → 0 < length (slots slot xs) → 0 < length xs
  unfolding slots
  some_items [] h = h
  some_items (x ∷ xs) h = omega arith

  pub first_slot : (xs : List I) → first (slots slot xs) ≡ option_map slot (slice_get xs 0)
  unfolding slots
  first_slot [] = refl
  first_slot (x ∷ xs) = at (slots slot xs)
    where
      at : (ms : List ℕ) → first (with_slot (slot x) ms) ≡ Some (slot x)
      at [] = refl
      at (m ∷ ms) = cond_both (eqb (slot x) m) (m ∷ ms) (slot x ∷ m ∷ ms) (λ l. first l ≡ Some (slot x)) (λ t. ap (λ k. Some k) (sym (eqb-true (slot x) m t))) (λ f. refl)

  with_all : (P : ℕ → Type 0) (n : ℕ) (ms : List ℕ) → P n → AllByRecursion P ms → AllByRecursion P (with_slot n ms)
  with_all P n [] h k = (h, tt)
  with_all P n (m ∷ ms) h k = cond_both (eqb n m) (m ∷ ms) (n ∷ m ∷ ms) (AllByRecursion P) (λ e. k) (λ e. (h, k))

  pub slots_all : (P : ℕ → Type 0) (xs : List I) → AllByRecursion (λ x. P (slot x)) xs → AllByRecursion P (slots slot xs)
  unfolding slots
  slots_all P [] h = tt
  slots_all P (x ∷ xs) h = with_all P (slot x) (slots slot xs) h.0 (slots_all P xs h.1)

  with_append : (n : ℕ) (ms ns : List ℕ) → AllByRecursion (λ k. n < k) ns → with_slot n (ms ++ ns) ≡ with_slot n ms ++ ns
  with_append n [] [] h = refl
  with_append n [] (k ∷ ns) h = cond_both (eqb n k) (k ∷ ns) (n ∷ k ∷ ns) (λ l. l ≡ n ∷ k ∷ ns) (λ t. absurd (omega (arith, eqb-true n k t, h.0))) (λ t. refl)
  with_append n (m ∷ ms) ns h = cond_both (eqb n m) (m ∷ ms) (n ∷ m ∷ ms) (λ l. with_slot n (m ∷ ms ++ ns) ≡ l ++ ns)
      (λ t. cond_both (eqb n m) (m ∷ (ms ++ ns)) (n ∷ m ∷ (ms ++ ns)) (λ l. l ≡ m ∷ (ms ++ ns)) (λ e. refl) (λ e. absurd (eqb_clash n m t e)))
      (λ f. cond_both (eqb n m) (m ∷ (ms ++ ns)) (n ∷ m ∷ (ms ++ ns)) (λ l. l ≡ n ∷ m ∷ (ms ++ ns)) (λ e. absurd (eqb_clash n m e f)) (λ e. refl))
    where
      eqb_clash : (a b : ℕ) → eqb a b ≡ true → eqb a b ≡ false → ⊥
      eqb_clash a b t f = cc

  pub slots_cut : (n : ℕ) (xs ys : List I) → AreCut n xs ys → slots slot (xs ++ ys) ≡ slots slot xs ++ slots slot ys
  unfolding slots
  slots_cut n [] ys c = refl
  slots_cut n (x ∷ xs) ys c =
      let higher : AllByRecursion (λ k. slot x < k) (slots slot ys) = slots_all (λ k. slot x < k) ys (all_weaker (λ y. n ≤ slot y) (λ y. slot x < slot y) (λ y k. omega (arith, c.low.0, k)) ys c.high) in
      ap (with_slot (slot x)) (slots_cut n xs ys (record { low = c.low.1; high = c.high })) ∙ with_append (slot x) (slots slot xs) (slots slot ys) higher

  module _ {S O : Type 0} (next : S → ℕ → List I → S) (is_out : S → ℕ → List I → O → Type 0) where
    pub before_same : (s : S) (xs ys : List I) (n : ℕ) → ((m : ℕ) → m < n → at_slot slot m xs ≡ at_slot slot m ys) → before next slot s xs n ≡ before next slot s ys n
    unfolding before
    before_same s xs ys zero h = refl
    before_same s xs ys (suc n) h = λ i. stepped next (before_same s xs ys n (λ m l. h m (omega arith)) i) n (h n (omega arith) i)

    -- before a slot from which on all items are, nothing was folded
    pub before_none : (s : S) (m : ℕ) (xs : List I) → AllByRecursion (λ x. m ≤ slot x) xs → before next slot s xs m ≡ s
    unfolding before
    before_none s zero xs h = refl
    before_none s (suc m) xs h =
        ap (stepped next (before next slot s xs m) m) (at_none m xs (all_weaker (λ x. suc m ≤ slot x) (λ x. slot x ≡ m → ⊥) (λ x k e. omega (arith, k, e)) xs h))
        ∙ before_none s m xs (all_weaker (λ x. suc m ≤ slot x) (λ x. m ≤ slot x) (λ x k. omega (arith, k)) xs h)

    pub before_low : (s : S) (n m : ℕ) (xs ys : List I) → AreCut n xs ys → m ≤ n → before next slot s (xs ++ ys) m ≡ before next slot s xs m
    before_low s n m xs ys c le = before_same s (xs ++ ys) xs m (λ k lt. at_low n k xs ys c (omega (arith, lt, le)))

    pub before_high : (s : S) (n m : ℕ) (xs ys : List I) → AreCut n xs ys → n ≤ m → before next slot s (xs ++ ys) m ≡ before next slot (before next slot s xs n) ys m
    unfolding before
    before_high s n zero xs ys c le = let e : n ≡ 0 = omega (arith, le) in sym (ap (before next slot s xs) e)
    before_high s n (suc m) xs ys c le = elim (cases_lt m n) [
      | inl lt ↦
          let e : suc m ≡ n = omega (arith, lt, le) in
          subst (λ k. before next slot s (xs ++ ys) k ≡ before next slot (before next slot s xs n) ys k) (sym e)
          (before_low s n n xs ys c (omega arith) ∙ sym (before_none (before next slot s xs n) n ys c.high))
      | inr ge ↦ λ i. stepped next (before_high s n m xs ys c ge i) m (at_high n m xs ys c ge i)
    ]

    after_low : (s : S) (n m : ℕ) (xs ys : List I) → AreCut n xs ys → m < n → after next slot s (xs ++ ys) m ≡ after next slot s xs m
    unfolding after
    after_low s n m xs ys c lt = λ i. next (before_low s n m xs ys c (omega (arith, lt)) i) m (at_low n m xs ys c lt i)

    after_high : (s : S) (n m : ℕ) (xs ys : List I) → AreCut n xs ys → n ≤ m → after next slot s (xs ++ ys) m ≡ after next slot (before next slot s xs n) ys m
    unfolding after
    after_high s n m xs ys c le = λ i. next (before_high s n m xs ys c le i) m (at_high n m xs ys c le i)

    pub same_mapped : (f g : ℕ → S) (P : ℕ → Type 0) (ns : List ℕ) → ((n : ℕ) → P n → f n ≡ g n) → AllByRecursion P ns → map f ns ≡ map g ns
    same_mapped f g P [] h k = refl
    same_mapped f g P (n ∷ ns) h k = λ i. h n k.0 i ∷ same_mapped f g P ns h k.1 i

    pub states_cut : (s : S) (n : ℕ) (xs ys : List I) → AreCut n xs ys → states next slot s (xs ++ ys) ≡ states next slot s xs ++ states next slot (before next slot s xs n) ys
    states_cut s n xs ys c =
        ap (map (after next slot s (xs ++ ys))) (slots_cut n xs ys c) ∙ map-append (after next slot s (xs ++ ys)) (slots slot xs) (slots slot ys)
        ∙ (λ i. same_mapped (after next slot s (xs ++ ys)) (after next slot s xs) (λ m. m < n) (slots slot xs) (λ m lt. after_low s n m xs ys c lt) (slots_all (λ m. m < n) xs c.low) i
        ++ same_mapped (after next slot s (xs ++ ys)) (after next slot (before next slot s xs n) ys) (λ m. n ≤ m) (slots slot ys) (λ m le. after_high s n m xs ys c le) (slots_all (λ m. n ≤ m) ys c.high) i)

    -- outs of the same states and items
    pub outs_same : (s t : S) (xs ys : List I) (P : ℕ → Type 0) (ns : List ℕ) (os : List O) → ((n : ℕ) → P n → (before next slot s xs n ≡ before next slot t ys n) × (at_slot slot n xs ≡ at_slot slot n ys)) → AllByRecursion P ns → OutsAt next slot is_out s xs ns os → OutsAt next slot is_out t ys ns os
    outs_same s t xs ys P [] os h k o = o
    outs_same s t xs ys P (n ∷ ns) [] h k o = o
    outs_same s t xs ys P (n ∷ ns) (u ∷ us) h k o =
        let same = h n k.0 in
        (subst (λ b. is_out b n (at_slot slot n ys) u) same.0 (subst (λ l. is_out (before next slot s xs n) n l u) same.1 o.0), outs_same s t xs ys P ns us h k.1 o.1)

    pub outs_count : (s : S) (xs : List I) (ns : List ℕ) (os : List O) → OutsAt next slot is_out s xs ns os → length os ≡ length ns
    outs_count s xs [] os h = ap length h
    outs_count s xs (n ∷ ns) [] h = absurd h
    outs_count s xs (n ∷ ns) (o ∷ os) h = ap suc (outs_count s xs ns os h.1)

    outs_joined : (s : S) (xs : List I) (ns ms : List ℕ) (os us : List O) → OutsAt next slot is_out s xs ns os → OutsAt next slot is_out s xs ms us → OutsAt next slot is_out s xs (ns ++ ms) (os ++ us)
    outs_joined s xs [] ms os us h k = subst (λ l. OutsAt next slot is_out s xs ms (l ++ us)) (sym h) k
    outs_joined s xs (n ∷ ns) ms [] us h k = absurd h
    outs_joined s xs (n ∷ ns) ms (o ∷ os) us h k = (h.0, outs_joined s xs ns ms os us h.1 k)

    outs_parted : (s : S) (xs : List I) (ns ms : List ℕ) (os : List O) → OutsAt next slot is_out s xs (ns ++ ms) os → OutsAt next slot is_out s xs ns (take (length ns) os) × OutsAt next slot is_out s xs ms (drop (length ns) os)
    outs_parted s xs [] ms os h = (refl, h)
    outs_parted s xs (n ∷ ns) ms [] h = absurd h
    outs_parted s xs (n ∷ ns) ms (o ∷ os) h = let rest = outs_parted s xs ns ms os h.1 in ((h.0, rest.0), rest.1)

    pub outs_cut : (s : S) (n : ℕ) (xs ys : List I) (os us : List O) → AreCut n xs ys → AreOutsOf next slot is_out s xs os → AreOutsOf next slot is_out (before next slot s xs n) ys us → AreOutsOf next slot is_out s (xs ++ ys) (os ++ us)
    outs_cut s n xs ys os us c h k =
        subst (λ (ns : List ℕ). OutsAt next slot is_out s (xs ++ ys) ns (os ++ us)) (sym (slots_cut n xs ys c))
        (outs_joined s (xs ++ ys) (slots slot xs) (slots slot ys) os us
        (outs_same s s xs (xs ++ ys) (λ m. m < n) (slots slot xs) os (λ m lt. (sym (before_low s n m xs ys c (omega (arith, lt))), sym (at_low n m xs ys c lt))) (slots_all (λ m. m < n) xs c.low) h)
        (outs_same (before next slot s xs n) s ys (xs ++ ys) (λ m. n ≤ m) (slots slot ys) us (λ m le. (sym (before_high s n m xs ys c le), sym (at_high n m xs ys c le))) (slots_all (λ m. n ≤ m) ys c.high) k))

    pub outs_uncut : (s : S) (n : ℕ) (xs ys : List I) (os : List O) → AreCut n xs ys → AreOutsOf next slot is_out s (xs ++ ys) os
        → AreOutsOf next slot is_out s xs (take (length (slots slot xs)) os) × AreOutsOf next slot is_out (before next slot s xs n) ys (drop (length (slots slot xs)) os)
    outs_uncut s n xs ys os c h =
        let two = outs_parted s (xs ++ ys) (slots slot xs) (slots slot ys) os (subst (λ (ns : List ℕ). OutsAt next slot is_out s (xs ++ ys) ns os) (slots_cut n xs ys c) h) in (
          outs_same s s (xs ++ ys) xs (λ m. m < n) (slots slot xs) (take (length (slots slot xs)) os) (λ m lt. (before_low s n m xs ys c (omega (arith, lt)), at_low n m xs ys c lt)) (slots_all (λ m. m < n) xs c.low) two.0,
          outs_same s (before next slot s xs n) (xs ++ ys) ys (λ m. n ≤ m) (slots slot ys) (drop (length (slots slot xs)) os) (λ m le. (before_high s n m xs ys c le, at_high n m xs ys c le)) (slots_all (λ m. n ≤ m) ys c.high) two.1,
        )

    -- The state after the last slot

    slots_one : (n : ℕ) (x : I) (xs : List I) → AllByRecursion (λ y. slot y ≡ n) (x ∷ xs) → slots slot (x ∷ xs) ≡ n ∷ []
    unfolding slots
    slots_one n x [] h = ap (λ (m : ℕ). m ∷ []) h.0
    slots_one n x (y ∷ xs) h = ap (with_slot (slot x)) (slots_one n y xs h.1) ∙ ap (λ m. with_slot m (n ∷ [])) h.0 ∙ with_known n
      where
        with_known : (n : ℕ) → with_slot n (n ∷ []) ≡ n ∷ []
        with_known n = rw (eq-eqb n n refl) refl

    at_all : (n : ℕ) (xs : List I) → AllByRecursion (λ x. slot x ≡ n) xs → at_slot slot n xs ≡ xs
    at_all n xs h = filter_all (λ x. eqb (slot x) n) xs (all_weaker (λ x. slot x ≡ n) (λ x. eqb (slot x) n ≡ true) (λ x e. eq-eqb (slot x) n e) xs h)

    -- from t, over items that are all of one slot
    latest_one : (t : S) (n : ℕ) (ys : List I) → AllByRecursion (λ y. slot y ≡ n) ys → latest t (states next slot t ys) ≡ before next slot t ys (suc n)
    unfolding before after slots
    latest_one t n [] h = sym (before_none t (suc n) [] tt)
    latest_one t n (y ∷ ys) h =
        let b : before next slot t (y ∷ ys) n ≡ t = before_none t n (y ∷ ys) (all_weaker (λ x. slot x ≡ n) (λ x. n ≤ slot x) (λ x e. omega (arith, e)) (y ∷ ys) h) in
        let own : at_slot slot n (y ∷ ys) ≡ y ∷ ys = at_all n (y ∷ ys) h in
        ap (λ l. latest t (map (after next slot t (y ∷ ys)) l)) (slots_one n y ys h)
        ∙ ap (next (before next slot t (y ∷ ys) n) n) own ∙ sym (ap (stepped next (before next slot t (y ∷ ys) n) n) own)

    -- the state after the last filled slot is the state before each later one
    pub latest_states : (s : S) (n : ℕ) (xs : List I) → SlotsRise slot xs → AllByRecursion (λ x. slot x < n) xs → latest s (states next slot s xs) ≡ before next slot s xs n
    unfolding before slots
    latest_states s zero [] r h = refl
    latest_states s zero (x ∷ xs) r h = absurd (omega (arith, h.0))
    latest_states s (suc n) xs r h =
        let lows = below slot n xs in
        let highs = from slot n xs in
        let t = before next slot s lows n in
        let e : xs ≡ lows ++ highs = cut_at n xs r in
        let one : AllByRecursion (λ x. slot x ≡ n) highs = all_weaker (λ x. (n ≤ slot x) × (slot x < suc n)) (λ x. slot x ≡ n) (λ x k. omega (arith, k.0, k.1)) highs
        (all_both (λ x. n ≤ slot x) (λ x. slot x < suc n) highs (from_le n xs) (filter_keeps (λ x. slot x < suc n) (λ x. leb n (slot x)) xs h)) in
        ap (λ l. latest s (states next slot s l)) e ∙ ap (latest s) (states_cut s n lows highs (cut n xs)) ∙ latest_append s (states next slot s lows) (states next slot t highs)
        ∙ ap (λ u. latest u (states next slot t highs)) (latest_states s n lows (below_rise n xs r) (below_lt n xs))
        ∙ latest_one t n highs one ∙ sym (before_high s n (suc n) lows highs (cut n xs) (omega arith)) ∙ sym (ap (λ l. before next slot s l (suc n)) e)
