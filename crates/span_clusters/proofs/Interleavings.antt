-- Lists that are interleaved.
use Rattle.std.proofs.Common.{◌≡◌, ◌∙◌, ap, sym, refl, ℕ, zero, suc, ◌+◌, List, [], ◌∷◌, ◌++◌, length, map, Bool, true, false, cond, eqb, arith, subst, inl, inr}
use Rattle.std.specs.Prelude.{◌⊎◌, Contains, filter}
use Rattle.std.specs.List.{AllByRecursion}
use Rattle.std.specs.declared.cmp.Ordering.{Ordering}
use Rattle.std.proofs.lemmas.Bool.{eqb-true, cond_both}
use Rattle.late_window.specs.Folding.{ComesBefore, Rises, InSlot, at_slot}
use Rattle.span_clusters.specs.Interleavings.{Interleaved, AllInterleaved, EachPair, KeysDiffer}
use Rattle.span_clusters.specs.Interleavings.Interleaved.{neither, first, second}

module _ {X : Type 0} where
  pub both_filter : (f : X → Bool) (xs ys zs : List X) → Interleaved xs ys zs → Interleaved (filter f xs) (filter f ys) (filter f zs)
  both_filter f _ _ _ neither = neither
  both_filter f _ _ _ (first x xs ys zs m) = elim (f x) as (λ b. Interleaved (cond b (x ∷ filter f xs) (filter f xs)) (filter f ys) (cond b (x ∷ filter f zs) (filter f zs))) [
    | true ↦ first x _ _ _ (both_filter f xs ys zs m)
    | false ↦ both_filter f xs ys zs m
  ]
  both_filter f _ _ _ (second y xs ys zs m) = elim (f y) as (λ b. Interleaved (filter f xs) (cond b (y ∷ filter f ys) (filter f ys)) (cond b (y ∷ filter f zs) (filter f zs))) [
    | true ↦ second y _ _ _ (both_filter f xs ys zs m)
    | false ↦ both_filter f xs ys zs m
  ]

  unfoldable pub swapped : (xs ys zs : List X) → Interleaved xs ys zs → Interleaved ys xs zs
  swapped _ _ _ neither = neither
  swapped _ _ _ (first x xs ys zs m) = second x _ _ _ (swapped xs ys zs m)
  swapped _ _ _ (second y xs ys zs m) = first y _ _ _ (swapped xs ys zs m)

  -- without the others neither is put to them
  pub alone : (xs ys zs : List X) → Interleaved xs ys zs → ys ≡ [] → xs ≡ zs
  alone _ _ _ neither e = refl
  alone _ _ _ (first x xs ys zs m) e = ap (λ (l : List X). x ∷ l) (alone xs ys zs m e)
  alone _ _ _ (second y xs ys zs m) e = cc

  pub none_of_none : (xs ys zs : List X) → Interleaved xs ys zs → zs ≡ [] → xs ≡ []
  none_of_none _ _ _ neither e = refl
  none_of_none _ _ _ (first x xs ys zs m) e = cc
  none_of_none _ _ _ (second y xs ys zs m) e = cc

  pub both_length : (xs ys zs : List X) → Interleaved xs ys zs → length xs + length ys ≡ length zs
  both_length _ _ _ neither = omega arith
  both_length _ _ _ (first x xs ys zs m) = omega (arith, both_length xs ys zs m)
  both_length _ _ _ (second y xs ys zs m) = omega (arith, both_length xs ys zs m)

  pub all_of_first : (P : X → Type 0) (xs ys zs : List X) → Interleaved xs ys zs → AllByRecursion P zs → AllByRecursion P xs
  all_of_first P _ _ _ neither h = tt
  all_of_first P _ _ _ (first x xs ys zs m) h = (h.0, all_of_first P xs ys zs m h.1)
  all_of_first P _ _ _ (second y xs ys zs m) h = all_of_first P xs ys zs m h.1

  pub contains_first : (x y : X) (xs : List X) → x ≡ y → Contains (x ∷ xs) y
  contains_first x y xs e = (0, omega arith, e)

  pub contains_later : (x y : X) (xs : List X) → Contains xs y → Contains (x ∷ xs) y
  contains_later x y xs c = (suc c.0, omega (arith, c.1), c.2)

  pub contains_cons : (x y : X) (xs : List X) → Contains (x ∷ xs) y → (x ≡ y) ⊎ Contains xs y
  contains_cons x y xs (zero, l, e) = inl e
  contains_cons x y xs (suc k, l, e) = inr (k, omega (arith, l), e)

  pub in_one : (y : X) (xs ys zs : List X) → Interleaved xs ys zs → Contains zs y → Contains xs y ⊎ Contains ys y
  in_one y _ _ _ neither c = inl c
  in_one y _ _ _ (first x xs ys zs m) c = elim (contains_cons x y zs c) [
    | inl e ↦ inl (contains_first x y xs e)
    | inr d ↦ elim (in_one y xs ys zs m d) [ inl a ↦ inl (contains_later x y xs a) | inr b ↦ inr b ]
  ]
  in_one y _ _ _ (second x xs ys zs m) c = elim (contains_cons x y zs c) [
    | inl e ↦ inr (contains_first x y ys e)
    | inr d ↦ elim (in_one y xs ys zs m d) [ inl a ↦ inl a | inr b ↦ inr (contains_later x y ys b) ]
  ]

  pub in_both : (y : X) (xs ys zs : List X) → Interleaved xs ys zs → Contains xs y → Contains zs y
  in_both y _ _ _ neither c = c
  in_both y _ _ _ (first x xs ys zs m) c = elim (contains_cons x y xs c) [ inl e ↦ contains_first x y zs e | inr d ↦ contains_later x y zs (in_both y xs ys zs m d) ]
  in_both y _ _ _ (second x xs ys zs m) c = contains_later x y zs (in_both y xs ys zs m c)

  pub all_contains : (P : X → Type 0) (y : X) (xs : List X) → AllByRecursion P xs → Contains xs y → P y
  all_contains P y [] h c = absurd (omega (arith, c.1))
  all_contains P y (x ∷ xs) h c = elim (contains_cons x y xs c) [ inl e ↦ subst P e h.0 | inr d ↦ all_contains P y xs h.1 d ]

  -- of three lists the first two are put together first
  pub two_first : (xs us ys vs zs : List X) → Interleaved xs us zs → Interleaved ys vs us → (ws : List X) × Interleaved xs ys ws × Interleaved ws vs zs
  two_first _ _ _ _ _ neither neither = ([], neither, neither)
  two_first _ _ ys vs _ (first x xs us zs m) k = let r : (ws : List X) × Interleaved xs ys ws × Interleaved ws vs zs = two_first xs us ys vs zs m k in (x ∷ r.0, first x _ _ _ r.1, first x _ _ _ r.2)
  two_first _ _ _ _ _ (second y xs us zs m) (first _ ys vs _ k) = let r : (ws : List X) × Interleaved xs ys ws × Interleaved ws vs zs = two_first xs us ys vs zs m k in (y ∷ r.0, second y _ _ _ r.1, first y _ _ _ r.2)
  two_first _ _ _ _ _ (second y xs us zs m) (second _ ys vs _ k) = let r : (ws : List X) × Interleaved xs ys ws × Interleaved ws vs zs = two_first xs us ys vs zs m k in (r.0, r.1, second y _ _ _ r.2)

  -- of three lists the last two are put together first
  pub last_two_first : (us vs ws rest zs : List X) → Interleaved us vs ws → Interleaved ws rest zs → (os : List X) × Interleaved vs rest os × Interleaved us os zs
  last_two_first us vs ws rest zs m n =
      let t : (os : List X) × Interleaved rest vs os × Interleaved os us zs = two_first rest ws vs us zs (swapped _ _ _ n) (swapped _ _ _ m) in
      (t.0, swapped _ _ _ t.1, swapped _ _ _ t.2)

  pub none_behind : (xs : List X) → Interleaved xs [] xs
  none_behind [] = neither
  none_behind (x ∷ xs) = first x xs [] xs (none_behind xs)

  pub all_filter : (P : X → Type 0) (f : X → Bool) (xs : List X) → AllByRecursion P xs → AllByRecursion P (filter f xs)
  all_filter P f [] h = tt
  all_filter P f (x ∷ xs) h = cond_both (f x) (x ∷ filter f xs) (filter f xs) (AllByRecursion P) (λ e. (h.0, all_filter P f xs h.1)) (λ e. all_filter P f xs h.1)

  pub at_in_slot : (slot : X → ℕ) (n : ℕ) (xs : List X) → InSlot slot n (at_slot slot n xs)
  at_in_slot slot n [] = tt
  at_in_slot slot n (x ∷ xs) = cond_both (eqb (slot x) n) (x ∷ at_slot slot n xs) (at_slot slot n xs) (InSlot slot n) (λ e. (eqb-true _ _ e, at_in_slot slot n xs)) (λ e. at_in_slot slot n xs)

  pub rises_filter : {K : Type 0} (cmp : X → X → Ordering) (key : X → K) (f : X → Bool) (xs : List X) → Rises cmp key xs → Rises cmp key (filter f xs)
  rises_filter cmp key f [] h = tt
  rises_filter cmp key f (x ∷ xs) h = cond_both (f x) (x ∷ filter f xs) (filter f xs) (Rises cmp key) (λ e. (all_filter (ComesBefore cmp key x) f xs h.0, rises_filter cmp key f xs h.1)) (λ e. rises_filter cmp key f xs h.1)

  pub first_rises : {K : Type 0} (cmp : X → X → Ordering) (key : X → K) (xs ys zs : List X) → Interleaved xs ys zs → Rises cmp key zs → Rises cmp key xs
  first_rises cmp key _ _ _ neither h = tt
  first_rises cmp key _ _ _ (first x xs ys zs m) h = (all_of_first (ComesBefore cmp key x) xs ys zs m h.0, first_rises cmp key xs ys zs m h.1)
  first_rises cmp key _ _ _ (second y xs ys zs m) h = first_rises cmp key xs ys zs m h.1

  pub keys_differ : {K : Type 0} (cmp : X → X → Ordering) (key : X → K) (xs ys zs : List X) → Interleaved xs ys zs → Rises cmp key zs → KeysDiffer key xs ys
  keys_differ cmp key _ _ _ neither h x y c d = absurd (omega (arith, c.1))
  keys_differ cmp key _ _ _ (first x xs ys zs m) h a b c d = elim (contains_cons x a xs c) [
    | inl e ↦ λ q. (all_contains (ComesBefore cmp key x) b zs h.0 (in_both b ys xs zs (swapped xs ys zs m) d)).keys (ap key e ∙ q)
    | inr k ↦ keys_differ cmp key xs ys zs m h.1 a b k d
  ]
  keys_differ cmp key _ _ _ (second y xs ys zs m) h a b c d = elim (contains_cons y b ys d) [
    | inl e ↦ λ q. (all_contains (ComesBefore cmp key y) a zs h.0 (in_both a xs ys zs m c)).keys (ap key e ∙ sym q)
    | inr k ↦ keys_differ cmp key xs ys zs m h.1 a b c k
  ]

  -- what is put together with others differs from each of them
  keys_of_each : {K : Type 0} (key : X → K) (xs us : List X) (xss : List (List X)) → KeysDiffer key xs us → AllInterleaved xss us → AllByRecursion (KeysDiffer key xs) xss
  keys_of_each key xs us [] h m = tt
  keys_of_each key xs us (ys ∷ xss) h m =
      (λ a b c d. h a b c (in_both b ys m.0 us m.1 d), keys_of_each key xs m.0 xss (λ a b c d. h a b c (in_both b m.0 ys us (swapped ys m.0 us m.1) d)) m.2)

  pub all_keys_differ : {K : Type 0} (cmp : X → X → Ordering) (key : X → K) (xss : List (List X)) (zs : List X) → AllInterleaved xss zs → Rises cmp key zs → EachPair (KeysDiffer key) xss
  all_keys_differ cmp key [] zs m h = tt
  all_keys_differ cmp key (xs ∷ xss) zs m h =
      (keys_of_each key xs m.0 xss (keys_differ cmp key xs m.0 zs m.1 h) m.2, all_keys_differ cmp key xss m.0 m.2 (first_rises cmp key m.0 xs zs (swapped xs m.0 zs m.1) h))

  pub all_filtered : (f : X → Bool) (xss : List (List X)) (zs : List X) → AllInterleaved xss zs → AllInterleaved (map (filter f) xss) (filter f zs)
  all_filtered f [] zs e = ap (filter f) e
  all_filtered f (xs ∷ xss) zs m = (filter f m.0, both_filter f xs m.0 zs m.1, all_filtered f xss m.0 m.2)

  -- each of the lists has its items in the whole
  pub each_rises : {K : Type 0} (cmp : X → X → Ordering) (key : X → K) (xss : List (List X)) (zs : List X) → AllInterleaved xss zs → Rises cmp key zs → AllByRecursion (Rises cmp key) xss
  each_rises cmp key [] zs m h = tt
  each_rises cmp key (xs ∷ xss) zs m h = (first_rises cmp key xs m.0 zs m.1 h, each_rises cmp key xss m.0 m.2 (first_rises cmp key m.0 xs zs (swapped xs m.0 zs m.1) h))

  pub kept_passes : (f : X → Bool) (y : X) (xs : List X) → Contains (filter f xs) y → f y ≡ true
  kept_passes f y [] c = absurd (omega (arith, c.1))
  kept_passes f y (x ∷ xs) c = cond_both (f x) (x ∷ filter f xs) (filter f xs) (λ l. Contains l y → f y ≡ true)
      (λ e d. elim (contains_cons x y (filter f xs) d) [ inl a ↦ ap f (sym a) ∙ e | inr b ↦ kept_passes f y xs b ])
      (λ e d. kept_passes f y xs d) c

  pub passing_kept : (f : X → Bool) (y : X) (xs : List X) → Contains xs y → f y ≡ true → Contains (filter f xs) y
  passing_kept f y [] c e = absurd (omega (arith, c.1))
  passing_kept f y (x ∷ xs) c e = elim (contains_cons x y xs c) [
    | inl a ↦ rw (ap f a ∙ e) (contains_first x y (filter f xs) a)
    | inr d ↦ cond_both (f x) (x ∷ filter f xs) (filter f xs) (λ l. Contains l y) (λ h. contains_later x y (filter f xs) (passing_kept f y xs d e)) (λ h. passing_kept f y xs d e)
  ]

  pub in_filter : (f : X → Bool) (y : X) (xs : List X) → Contains (filter f xs) y → Contains xs y
  in_filter f y [] c = c
  in_filter f y (x ∷ xs) c = cond_both (f x) (x ∷ filter f xs) (filter f xs) (λ l. Contains l y → Contains (x ∷ xs) y)
      (λ e d. elim (contains_cons x y (filter f xs) d) [ inl a ↦ contains_first x y xs a | inr b ↦ contains_later x y xs (in_filter f y xs b) ])
      (λ e d. contains_later x y xs (in_filter f y xs d)) c

pub contains_left : {X : Type 0} (xs ys : List X) (x : X) → Contains xs x → Contains (xs ++ ys) x
contains_left [] ys x c = absurd (omega (arith, c.1))
contains_left (z ∷ xs) ys x c = elim (contains_cons z x xs c) [ inl e ↦ contains_first z x (xs ++ ys) e | inr d ↦ contains_later z x (xs ++ ys) (contains_left xs ys x d) ]

pub contains_end : {X : Type 0} (xs : List X) (x y : X) → x ≡ y → Contains (xs ++ x ∷ []) y
contains_end [] x y e = contains_first x y [] e
contains_end (z ∷ xs) x y e = contains_later z y (xs ++ x ∷ []) (contains_end xs x y e)
