-- The first filled slot, and then the rest.
use Rattle.std.proofs.Common.{◌≡◌, ◌≢◌, ◌∙◌, ap, sym, ℕ, zero, suc, ◌+◌, ◌≤◌, ◌<◌, List, [], ◌∷◌, length, map, take, drop, arith, refl, true, false, eqb, cond, get_or, eq-eqb, subst, inl, inr}
use Rattle.std.specs.List.{AllByRecursion}
use Rattle.std.specs.declared.cmp.Ordering.{Ordering}
use Rattle.std.specs.declared.cmp.Ordering.TheVariants.{Less}
use Rattle.std.proofs.lemmas.Bool.{eqb-true, eqb-false, cond_both, cases_eq}
use Rattle.late_window.specs.Folding.{ComesBefore, Rises, InSlot, at_slot, stepped, before, after, with_slot, slots, states, BeforeFirst, OutsAt, AreOutsOf, group_count}

-- n is the slot of the first item
abbrev pub BeginsWith : {I : Type 0} → (I → ℕ) → ℕ → List I → Type 0
BeginsWith slot n [] = ⊥
BeginsWith slot n (x ∷ xs) = slot x ≡ n

pub begins_with : {I : Type 0} (slot : I → ℕ) (n : ℕ) (xs : List I) (y : I) → false ≡ eqb (length xs) 0 → y ≡ get_or xs 0 y → n ≡ slot y → BeginsWith slot n xs
begins_with slot n [] y h e k = cc
begins_with slot n (x ∷ xs) y h e k = sym (k ∙ ap slot e)

pub group_within : {I : Type 0} (slot : I → ℕ) (n : ℕ) (xs : List I) → group_count slot n xs ≤ length xs
group_within slot n [] = omega arith
group_within slot n (x ∷ xs) = cond_both (eqb (slot x) n) (suc (group_count slot n xs)) 0 (λ k. k ≤ length (x ∷ xs)) (λ t. omega (arith, group_within slot n xs)) (λ t. omega arith)

-- slots don't fall
abbrev pub SlotsRise : {I : Type 0} → (I → ℕ) → List I → Type 0
SlotsRise slot [] = Unit {0}
SlotsRise slot (x ∷ xs) = AllByRecursion (λ y. slot x ≤ slot y) xs × SlotsRise slot xs

pub weaker : {X : Type 0} (P Q : X → Type 0) (xs : List X) → ((x : X) → P x → Q x) → AllByRecursion P xs → AllByRecursion Q xs
weaker P Q [] f h = tt
weaker P Q (x ∷ xs) f h = (f x h.0, weaker P Q xs f h.1)

pub slots_rise : {I K : Type 0} (cmp : I → I → Ordering) (key : I → K) (slot : I → ℕ) → ((x y : I) → cmp x y ≡ Less → slot x ≤ slot y) → (xs : List I) → Rises cmp key xs → SlotsRise slot xs
slots_rise cmp key slot order [] h = tt
slots_rise cmp key slot order (x ∷ xs) h = (weaker (ComesBefore cmp key x) (λ y. slot x ≤ slot y) xs (λ y c. order x y c.order) h.0, slots_rise cmp key slot order xs h.1)

pub drop_all : {X : Type 0} (P : X → Type 0) (k : ℕ) (xs : List X) → AllByRecursion P xs → AllByRecursion P (drop k xs)
drop_all P zero xs h = h
drop_all P (suc k) [] h = tt
drop_all P (suc k) (x ∷ xs) h = drop_all P k xs h.1

take_all : {X : Type 0} (P : X → Type 0) (k : ℕ) (xs : List X) → AllByRecursion P xs → AllByRecursion P (take k xs)
take_all P zero xs h = tt
take_all P (suc k) [] h = tt
take_all P (suc k) (x ∷ xs) h = (h.0, take_all P k xs h.1)

pub drop_rises : {I K : Type 0} (cmp : I → I → Ordering) (key : I → K) (k : ℕ) (xs : List I) → Rises cmp key xs → Rises cmp key (drop k xs)
drop_rises cmp key zero xs h = h
drop_rises cmp key (suc k) [] h = tt
drop_rises cmp key (suc k) (x ∷ xs) h = drop_rises cmp key k xs h.1

pub take_rises : {I K : Type 0} (cmp : I → I → Ordering) (key : I → K) (k : ℕ) (xs : List I) → Rises cmp key xs → Rises cmp key (take k xs)
take_rises cmp key zero xs h = tt
take_rises cmp key (suc k) [] h = tt
take_rises cmp key (suc k) (x ∷ xs) h = (take_all (ComesBefore cmp key x) k xs h.0, take_rises cmp key k xs h.1)

module _ {I : Type 0} (slot : I → ℕ) where
  pub group_in_slot : (n : ℕ) (xs : List I) → InSlot slot n (take (group_count slot n xs) xs)
  group_in_slot n [] = tt
  group_in_slot n (x ∷ xs) = cond_both (eqb (slot x) n) (suc (group_count slot n xs)) 0 (λ k. InSlot slot n (take k (x ∷ xs))) (λ t. (eqb-true (slot x) n t, group_in_slot n xs)) (λ t. tt)

  pub low_all : (n : ℕ) (xs : List I) → SlotsRise slot xs → BeginsWith slot n xs → AllByRecursion (λ x. n ≤ slot x) xs
  low_all n [] r f = tt
  low_all n (x ∷ xs) r f = (omega arith, weaker (λ y. slot x ≤ slot y) (λ y. n ≤ slot y) xs (λ y k. omega arith) r.0)

  pub group_some : (n : ℕ) (xs : List I) → BeginsWith slot n xs → 0 < length (take (group_count slot n xs) xs)
  group_some n [] f = absurd f
  group_some n (x ∷ xs) f = rw (eq-eqb (slot x) n f) (omega arith)

  at_group : (n : ℕ) (x : I) (xs : List I) → slot x ≡ n → group_count slot n (x ∷ xs) ≡ suc (group_count slot n xs)
  at_group n x xs e = rw (eq-eqb (slot x) n e) refl

  pub not_at : (n : ℕ) (x : I) (xs : List I) → slot x ≢ n → at_slot slot n (x ∷ xs) ≡ at_slot slot n xs
  not_at n x xs d = cond_both (eqb (slot x) n) (x ∷ at_slot slot n xs) (at_slot slot n xs) (λ l. l ≡ at_slot slot n xs) (λ t. absurd (d (eqb-true _ _ t))) (λ t. refl)

  pub none_at : (n : ℕ) (xs : List I) → AllByRecursion (λ x. n < slot x) xs → at_slot slot n xs ≡ []
  none_at n [] h = refl
  none_at n (x ∷ xs) h = not_at n x xs (λ e. let l = h.0 in omega arith) ∙ none_at n xs h.1

  -- where the first item isn't of slot n and none is below, none is of it
  pub above : (n : ℕ) (x : I) (xs : List I) → AllByRecursion (λ y. slot x ≤ slot y) xs → n ≤ slot x → slot x ≢ n → AllByRecursion (λ y. n < slot y) (x ∷ xs)
  above n x xs h le d = (omega arith, weaker (λ y. slot x ≤ slot y) (λ y. n < slot y) xs (λ y k. omega arith) h)

  pub at_begins_with : (n : ℕ) (xs : List I) → SlotsRise slot xs → AllByRecursion (λ x. n ≤ slot x) xs → at_slot slot n xs ≡ take (group_count slot n xs) xs
  at_begins_with n [] r h = refl
  at_begins_with n (x ∷ xs) r h = elim (cases_eq (slot x) n) [
    | inl e ↦ subst (λ b. cond b (x ∷ at_slot slot n xs) (at_slot slot n xs) ≡ take (cond b (suc (group_count slot n xs)) 0) (x ∷ xs)) (sym (eq-eqb (slot x) n e)) (ap (λ (l : List I). x ∷ l) (at_begins_with n xs r.1 h.1))
    | inr d ↦ cond_both (eqb (slot x) n) (suc (group_count slot n xs)) 0 (λ k. at_slot slot n (x ∷ xs) ≡ take k (x ∷ xs)) (λ t. absurd (d (eqb-true _ _ t))) (λ t. none_at n (x ∷ xs) (above n x xs r.0 h.0 d))
  ]

  pub rest_above : (n : ℕ) (xs : List I) → SlotsRise slot xs → AllByRecursion (λ x. n ≤ slot x) xs → AllByRecursion (λ x. n < slot x) (drop (group_count slot n xs) xs)
  rest_above n [] r h = tt
  rest_above n (x ∷ xs) r h = cond_both (eqb (slot x) n) (suc (group_count slot n xs)) 0 (λ k. AllByRecursion (λ x. n < slot x) (drop k (x ∷ xs))) (λ t. rest_above n xs r.1 h.1) (λ t. above n x xs r.0 h.0 (eqb-false _ _ t))

  -- the other slots' items stand after the group
  pub at_others : (n m : ℕ) (xs : List I) → n ≢ m → at_slot slot m (drop (group_count slot n xs) xs) ≡ at_slot slot m xs
  at_others n m [] h = refl
  at_others n m (x ∷ xs) h = cond_both (eqb (slot x) n) (suc (group_count slot n xs)) 0 (λ k. at_slot slot m (drop k (x ∷ xs)) ≡ at_slot slot m (x ∷ xs))
      (λ t. at_others n m xs h ∙ sym (not_at m x xs (λ e. h (sym (eqb-true (slot x) n t) ∙ e)))) (λ t. refl)

  pub at_rest : (n m : ℕ) (xs : List I) → n < m → at_slot slot m (drop (group_count slot n xs) xs) ≡ at_slot slot m xs
  at_rest n m xs h = at_others n m xs (λ e. omega (arith, h, e))

  slots_above : (P : ℕ → Type 0) (xs : List I) → AllByRecursion (λ x. P (slot x)) xs → AllByRecursion P (slots slot xs)
  unfolding slots
  slots_above P [] h = tt
  slots_above P (x ∷ xs) h = with (slots slot xs) (slots_above P xs h.1)
    where
      with : (ns : List ℕ) → AllByRecursion P ns → AllByRecursion P (with_slot (slot x) ns)
      with [] k = (h.0, tt)
      with (m ∷ ms) k = cond_both (eqb (slot x) m) (m ∷ ms) (slot x ∷ m ∷ ms) (AllByRecursion P) (λ e. k) (λ e. (h.0, k))

  with_new : (n : ℕ) (ms : List ℕ) → AllByRecursion (λ m. n < m) ms → with_slot n ms ≡ n ∷ ms
  with_new n [] h = refl
  with_new n (m ∷ ms) h = cond_both (eqb n m) (m ∷ ms) (n ∷ m ∷ ms) (λ l. l ≡ n ∷ m ∷ ms) (λ t. absurd (let e = eqb-true n m t in let k = h.0 in omega arith)) (λ t. refl)

  with_known : (n : ℕ) (ms : List ℕ) → with_slot n (n ∷ ms) ≡ n ∷ ms
  with_known n ms = rw (eq-eqb n n refl) refl

  pub slots_group : (n : ℕ) (xs : List I) → SlotsRise slot xs → AllByRecursion (λ x. n ≤ slot x) xs → BeginsWith slot n xs → slots slot xs ≡ n ∷ slots slot (drop (group_count slot n xs) xs)
  unfolding slots
  slots_group n [] r h f = absurd f
  slots_group n (x ∷ []) r h f = rw (at_group n x [] f) (ap (λ (m : ℕ). m ∷ []) f)
  slots_group n (x ∷ y ∷ xs) r h f = rw (at_group n x (y ∷ xs) f) (elim (cases_eq (slot y) n) [
    | inl e ↦ ap (λ (l : List ℕ). with_slot (slot x) l) (slots_group n (y ∷ xs) r.1 h.1 e) ∙ ap (λ m. with_slot m (n ∷ slots slot (drop (group_count slot n (y ∷ xs)) (y ∷ xs)))) f ∙ with_known n _
    | inr d ↦
        let up : AllByRecursion (λ z. n < slot z) (y ∷ xs) = above n y xs r.1.0 h.1.0 d in
        ap (λ m. with_slot m (slots slot (y ∷ xs))) f ∙ with_new n (slots slot (y ∷ xs)) (slots_above (λ m. n < m) (y ∷ xs) up)
        ∙ cond_both (eqb (slot y) n) (suc (group_count slot n xs)) 0 (λ k. n ∷ slots slot (y ∷ xs) ≡ n ∷ slots slot (drop k (y ∷ xs))) (λ t. absurd (d (eqb-true _ _ t))) (λ t. refl)
  ])

  module _ {S O : Type 0} (next : S → ℕ → List I → S) (is_out : S → ℕ → List I → O → Type 0) where
    pub before_low : (s : S) (m : ℕ) (xs : List I) → AllByRecursion (λ x. m ≤ slot x) xs → before next slot s xs m ≡ s
    unfolding before
    before_low s zero xs h = refl
    before_low s (suc m) xs h = ap (stepped next (before next slot s xs m) m) (none_at m xs (weaker (λ x. suc m ≤ slot x) (λ x. m < slot x) xs (λ x k. omega arith) h)) ∙ before_low s m xs (weaker (λ x. suc m ≤ slot x) (λ x. m ≤ slot x) xs (λ x k. omega arith) h)

    stepped_some : (s : S) (n : ℕ) (xs g : List I) → 0 < length g → xs ≡ g → stepped next s n xs ≡ next s n g
    stepped_some s n xs [] l e = absurd (omega arith)
    stepped_some s n xs (x ∷ g) l e = ap (stepped next s n) e

    some_group : (n : ℕ) (xs : List I) → BeginsWith slot n xs → 0 < length (take (group_count slot n xs) xs)
    some_group n [] f = absurd f
    some_group n (x ∷ xs) f = rw (at_group n x xs f) (omega arith)

    -- items that begin with slot n, and the state after it
    pub record Begins (s : S) (n : ℕ) (xs : List I) : Type 0 where
      pub rise : SlotsRise slot xs
      pub low : AllByRecursion (λ x. n ≤ slot x) xs
      pub first : BeginsWith slot n xs

    pub begins : (s : S) (n : ℕ) (xs : List I) → SlotsRise slot xs → BeginsWith slot n xs → Begins s n xs
    begins s n xs r f = record { rise = r; low = low_all n xs r f; first = f }

    abbrev pub group : ℕ → List I → List I
    group n xs = take (group_count slot n xs) xs

    abbrev pub others : ℕ → List I → List I
    others n xs = drop (group_count slot n xs) xs

    pub before_group : (s : S) (n m : ℕ) (xs : List I) → Begins s n xs → n < m → before next slot s xs m ≡ before next slot (next s n (group n xs)) (others n xs) m
    unfolding before
    before_group s n zero xs b h = absurd (omega (arith, h))
    before_group s n (suc m) xs b h = elim (cases_eq n m) [
      | inl e ↦
          subst (λ i. stepped next (before next slot s xs i) i (at_slot slot i xs) ≡ stepped next (before next slot (next s n (group n xs)) (others n xs) i) i (at_slot slot i (others n xs))) e
          (ap (λ t. stepped next t n (at_slot slot n xs)) (before_low s n xs b.low) ∙ stepped_some s n (at_slot slot n xs) (group n xs) (some_group n xs b.first) (at_begins_with n xs b.rise b.low)
          ∙ sym (ap (stepped next (before next slot (next s n (group n xs)) (others n xs) n) n) (none_at n (others n xs) (rest_above n xs b.rise b.low))
          ∙ before_low (next s n (group n xs)) n (others n xs) (weaker (λ x. n < slot x) (λ x. n ≤ slot x) (others n xs) (λ x k. omega arith) (rest_above n xs b.rise b.low))))
      | inr d ↦
          let lt : n < m = omega (arith, h, d) in
          λ i. stepped next (before_group s n m xs b lt i) m (sym (at_rest n m xs lt) i)
    ]

    after_group : (s : S) (n m : ℕ) (xs : List I) → Begins s n xs → n < m → after next slot s xs m ≡ after next slot (next s n (group n xs)) (others n xs) m
    unfolding after
    after_group s n m xs b h = λ i. next (before_group s n m xs b h i) m (sym (at_rest n m xs h) i)

    after_own : (s : S) (n : ℕ) (xs : List I) → Begins s n xs → after next slot s xs n ≡ next s n (group n xs)
    unfolding after
    after_own s n xs b = λ i. next (before_low s n xs b.low i) n (at_begins_with n xs b.rise b.low i)

    same_mapped : (f g : ℕ → S) (P : ℕ → Type 0) (ns : List ℕ) → ((n : ℕ) → P n → f n ≡ g n) → AllByRecursion P ns → map f ns ≡ map g ns
    same_mapped f g P [] h k = refl
    same_mapped f g P (n ∷ ns) h k = λ i. h n k.0 i ∷ same_mapped f g P ns h k.1 i

    pub states_group : (s : S) (n : ℕ) (xs : List I) → Begins s n xs → states next slot s xs ≡ next s n (group n xs) ∷ states next slot (next s n (group n xs)) (others n xs)
    states_group s n xs b =
        ap (map (after next slot s xs)) (slots_group n xs b.rise b.low b.first)
        ∙ (λ i. after_own s n xs b i ∷ same_mapped (after next slot s xs) (after next slot (next s n (group n xs)) (others n xs)) (λ m. n < m) (slots slot (others n xs)) (λ m h. after_group s n m xs b h) (slots_above (λ m. n < m) (others n xs) (rest_above n xs b.rise b.low)) i)

    outs_rest : (s : S) (n : ℕ) (xs : List I) → Begins s n xs → (ns : List ℕ) (os : List O) → AllByRecursion (λ m. n < m) ns → OutsAt next slot is_out (next s n (group n xs)) (others n xs) ns os → OutsAt next slot is_out s xs ns os
    outs_rest s n xs b [] os h k = k
    outs_rest s n xs b (m ∷ ns) [] h k = k
    outs_rest s n xs b (m ∷ ns) (o ∷ os) h k =
        (subst (λ t. is_out t m (at_slot slot m xs) o) (sym (before_group s n m xs b h.0)) (subst (λ (g : List I). is_out (before next slot (next s n (group n xs)) (others n xs) m) m g o) (at_rest n m xs h.0) k.0), outs_rest s n xs b ns os h.1 k.1)

    pub outs_group : (s : S) (n : ℕ) (xs : List I) (o : O) (os : List O) → Begins s n xs → is_out s n (group n xs) o → AreOutsOf next slot is_out (next s n (group n xs)) (others n xs) os → AreOutsOf next slot is_out s xs (o ∷ os)
    outs_group s n xs o os b h k =
        subst (λ (ns : List ℕ). OutsAt next slot is_out s xs ns (o ∷ os)) (sym (slots_group n xs b.rise b.low b.first)) (
          subst (λ t. is_out t n (at_slot slot n xs) o) (sym (before_low s n xs b.low)) (subst (λ (g : List I). is_out s n g o) (sym (at_begins_with n xs b.rise b.low)) h),
          outs_rest s n xs b (slots slot (others n xs)) os (slots_above (λ m. n < m) (others n xs) (rest_above n xs b.rise b.low)) k,
        )

    pub none_left : (s : S) (xs : List I) → true ≡ eqb (length xs) 0 → xs ≡ []
    none_left s [] h = refl
    none_left s (x ∷ xs) h = absurd (let e : length (x ∷ xs) ≡ 0 = eqb-true _ _ (sym h) in omega arith)

    pub first_of_rest : (is_before : S → ℕ → Type 0) → ((s : S) (a b : ℕ) → a ≤ b → is_before s a → is_before s b) → (s : S) (n : ℕ) (ys : List I) → AllByRecursion (λ x. n < slot x) ys → is_before s (n + 1) → BeforeFirst is_before slot s ys
    first_of_rest is_before stays s n [] h b = tt
    first_of_rest is_before stays s n (y ∷ ys) h b = stays s (n + 1) (slot y) (omega (arith, h.0)) b

    pub at_first : (is_before : S → ℕ → Type 0) (s : S) (n : ℕ) (xs : List I) → BeginsWith slot n xs → BeforeFirst is_before slot s xs → is_before s n
    at_first is_before s n [] f b = absurd f
    at_first is_before s n (x ∷ xs) f b = subst (is_before s) f b
