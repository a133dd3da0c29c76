-- Lists that are put together.
use Rattle.std.proofs.Common.{◌≡◌, ◌∙◌, ap, sym, refl, zero, suc, List, [], ◌∷◌, ◌++◌, Bool, true, false, cond, arith, subst, inl, inr}
use Rattle.std.specs.Prelude.{◌⊎◌, Contains, filter}
use Rattle.std.specs.List.{AllByRecursion}
use Rattle.std.specs.Cmp.{IsTotalOrder}
use Rattle.std.specs.List.Sorted.{IsStrictlySortedBy}
use Rattle.std.specs.Ordering.{ordering_reverse}
use Rattle.std.specs.declared.cmp.Ordering.{Ordering}
use Rattle.std.specs.declared.cmp.Ordering.TheVariants.{Less, Greater}
use Rattle.std.proofs.lemmas.Bool.{cond_both}
use Rattle.slot_step.specs.Interleavings.{Interleaved}
use Rattle.slot_step.specs.Interleavings.Interleaved.{neither, first, second}

module _ {X : Type 0} where
  pub both_filter : (f : X → Bool) (xs ys zs : List X) → Interleaved xs ys zs → Interleaved (filter f xs) (filter f ys) (filter f zs)
  both_filter f _ _ _ neither = neither
  both_filter f _ _ _ (first x xs ys zs m) = elim (f x) as (λ b. Interleaved (cond b (x ∷ filter f xs) (filter f xs)) (filter f ys) (cond b (x ∷ filter f zs) (filter f zs))) [
    | true ↦ first x _ _ _ (both_filter f xs ys zs m)
    | false ↦ both_filter f xs ys zs m
  ]
  both_filter f _ _ _ (second y xs ys zs m) = elim (f y) as (λ b. Interleaved (filter f xs) (cond b (y ∷ filter f ys) (filter f ys)) (cond b (y ∷ filter f zs) (filter f zs))) [
    | true ↦ second y _ _ _ (both_filter f xs ys zs m)
    | false ↦ both_filter f xs ys zs m
  ]

  unfoldable pub swapped : (xs ys zs : List X) → Interleaved xs ys zs → Interleaved ys xs zs
  swapped _ _ _ neither = neither
  swapped _ _ _ (first x xs ys zs m) = second x _ _ _ (swapped xs ys zs m)
  swapped _ _ _ (second y xs ys zs m) = first y _ _ _ (swapped xs ys zs m)

  pub both_append : (us vs ws us' vs' ws' : List X) → Interleaved us vs ws → Interleaved us' vs' ws' → Interleaved (us ++ us') (vs ++ vs') (ws ++ ws')
  both_append _ _ _ us' vs' ws' neither n = n
  both_append _ _ _ us' vs' ws' (first x us vs ws m) n = first x _ _ _ (both_append us vs ws us' vs' ws' m n)
  both_append _ _ _ us' vs' ws' (second x us vs ws m) n = second x _ _ _ (both_append us vs ws us' vs' ws' m n)

  pub all_first : (xs : List X) → Interleaved xs [] xs
  all_first [] = neither
  all_first (x ∷ xs) = first x _ _ _ (all_first xs)

  pub all_second : (xs : List X) → Interleaved [] xs xs
  all_second [] = neither
  all_second (x ∷ xs) = second x _ _ _ (all_second xs)

  pub all_of_first : (P : X → Type 0) (xs ys zs : List X) → Interleaved xs ys zs → AllByRecursion P zs → AllByRecursion P xs
  all_of_first P _ _ _ neither h = tt
  all_of_first P _ _ _ (first x xs ys zs m) h = (h.0, all_of_first P xs ys zs m h.1)
  all_of_first P _ _ _ (second y xs ys zs m) h = all_of_first P xs ys zs m h.1

  pub all_of_both : (P : X → Type 0) (xs ys zs : List X) → Interleaved xs ys zs → AllByRecursion P xs → AllByRecursion P ys → AllByRecursion P zs
  all_of_both P _ _ _ neither h g = tt
  all_of_both P _ _ _ (first x xs ys zs m) h g = (h.0, all_of_both P xs ys zs m h.1 g)
  all_of_both P _ _ _ (second y xs ys zs m) h g = (g.0, all_of_both P xs ys zs m h g.1)

  pub contains_first : (x y : X) (xs : List X) → x ≡ y → Contains (x ∷ xs) y
  contains_first x y xs e = (0, omega arith, e)

  pub contains_later : (x y : X) (xs : List X) → Contains xs y → Contains (x ∷ xs) y
  contains_later x y xs c = (suc c.0, omega (arith, c.1), c.2)

  pub contains_cons : (x y : X) (xs : List X) → Contains (x ∷ xs) y → (x ≡ y) ⊎ Contains xs y
  contains_cons x y xs (zero, l, e) = inl e
  contains_cons x y xs (suc k, l, e) = inr (k, omega (arith, l), e)

  pub contains_none : {Q : Type 0} (y : X) → Contains [] y → Q
  contains_none y c = absurd (omega (arith, c.1))

  pub in_one : (y : X) (xs ys zs : List X) → Interleaved xs ys zs → Contains zs y → Contains xs y ⊎ Contains ys y
  in_one y _ _ _ neither c = inl c
  in_one y _ _ _ (first x xs ys zs m) c = elim (contains_cons x y zs c) [
    | inl e ↦ inl (contains_first x y xs e)
    | inr d ↦ elim (in_one y xs ys zs m d) [ inl a ↦ inl (contains_later x y xs a) | inr b ↦ inr b ]
  ]
  in_one y _ _ _ (second x xs ys zs m) c = elim (contains_cons x y zs c) [
    | inl e ↦ inr (contains_first x y ys e)
    | inr d ↦ elim (in_one y xs ys zs m d) [ inl a ↦ inl a | inr b ↦ inr (contains_later x y ys b) ]
  ]

  pub in_both : (y : X) (xs ys zs : List X) → Interleaved xs ys zs → Contains xs y → Contains zs y
  in_both y _ _ _ neither c = c
  in_both y _ _ _ (first x xs ys zs m) c = elim (contains_cons x y xs c) [ inl e ↦ contains_first x y zs e | inr d ↦ contains_later x y zs (in_both y xs ys zs m d) ]
  in_both y _ _ _ (second x xs ys zs m) c = contains_later x y zs (in_both y xs ys zs m c)

  pub all_contains : (P : X → Type 0) (y : X) (xs : List X) → AllByRecursion P xs → Contains xs y → P y
  all_contains P y [] h c = contains_none y c
  all_contains P y (x ∷ xs) h c = elim (contains_cons x y xs c) [ inl e ↦ subst P e h.0 | inr d ↦ all_contains P y xs h.1 d ]

  pub all_of : (P : X → Type 0) (xs : List X) → ((x : X) → Contains xs x → P x) → AllByRecursion P xs
  all_of P [] f = tt
  all_of P (x ∷ xs) f = (f x (contains_first x x xs refl), all_of P xs (λ y c. f y (contains_later x y xs c)))

  pub all_weaker : (P Q : X → Type 0) (xs : List X) → ((x : X) → P x → Q x) → AllByRecursion P xs → AllByRecursion Q xs
  all_weaker P Q [] f h = tt
  all_weaker P Q (x ∷ xs) f h = (f x h.0, all_weaker P Q xs f h.1)

  pub all_append : (P : X → Type 0) (xs ys : List X) → AllByRecursion P xs → AllByRecursion P ys → AllByRecursion P (xs ++ ys)
  all_append P [] ys h g = g
  all_append P (x ∷ xs) ys h g = (h.0, all_append P xs ys h.1 g)

  pub all_filter : (P : X → Type 0) (f : X → Bool) (xs : List X) → AllByRecursion P xs → AllByRecursion P (filter f xs)
  all_filter P f [] h = tt
  all_filter P f (x ∷ xs) h = cond_both (f x) (x ∷ filter f xs) (filter f xs) (AllByRecursion P) (λ e. (h.0, all_filter P f xs h.1)) (λ e. all_filter P f xs h.1)

  pub in_filter : (f : X → Bool) (y : X) (xs : List X) → Contains (filter f xs) y → Contains xs y
  in_filter f y [] c = c
  in_filter f y (x ∷ xs) c = cond_both (f x) (x ∷ filter f xs) (filter f xs) (λ l. Contains l y → Contains (x ∷ xs) y)
      (λ e d. elim (contains_cons x y (filter f xs) d) [ inl a ↦ contains_first x y xs a | inr b ↦ contains_later x y xs (in_filter f y xs b) ])
      (λ e d. contains_later x y xs (in_filter f y xs d)) c

  pub filter_passes : (f : X → Bool) (x : X) (xs : List X) → Contains (filter f xs) x → f x ≡ true
  filter_passes f x [] c = contains_none x c
  filter_passes f x (y ∷ ys) c = cond_both (f y) (y ∷ filter f ys) (filter f ys) (λ l. Contains l x → f x ≡ true)
      (λ e d. elim (contains_cons y x (filter f ys) d) [ inl q ↦ subst (λ z. f z ≡ true) q e | inr g ↦ filter_passes f x ys g ])
      (λ e d. filter_passes f x ys d) c

  -- without the others nothing is put to them
  pub alone : (xs ys zs : List X) → Interleaved xs ys zs → ys ≡ [] → xs ≡ zs
  alone _ _ _ neither e = refl
  alone _ _ _ (first x xs ys zs m) e = ap (λ (l : List X). x ∷ l) (alone xs ys zs m e)
  alone _ _ _ (second y xs ys zs m) e = cc

  -- of three lists the first two are put together first
  pub two_first : (xs us ys vs zs : List X) → Interleaved xs us zs → Interleaved ys vs us → (ws : List X) × Interleaved xs ys ws × Interleaved ws vs zs
  two_first _ _ _ _ _ neither neither = ([], neither, neither)
  two_first _ _ ys vs _ (first x xs us zs m) k = let r : (ws : List X) × Interleaved xs ys ws × Interleaved ws vs zs = two_first xs us ys vs zs m k in (x ∷ r.0, first x _ _ _ r.1, first x _ _ _ r.2)
  two_first _ _ _ _ _ (second y xs us zs m) (first _ ys vs _ k) = let r : (ws : List X) × Interleaved xs ys ws × Interleaved ws vs zs = two_first xs us ys vs zs m k in (y ∷ r.0, second y _ _ _ r.1, first y _ _ _ r.2)
  two_first _ _ _ _ _ (second y xs us zs m) (second _ ys vs _ k) = let r : (ws : List X) × Interleaved xs ys ws × Interleaved ws vs zs = two_first xs us ys vs zs m k in (r.0, r.1, second y _ _ _ r.2)

  pub first_rises : (cmp : X → X → Ordering) (xs ys zs : List X) → Interleaved xs ys zs → IsStrictlySortedBy cmp zs → IsStrictlySortedBy cmp xs
  unfolding IsStrictlySortedBy
  first_rises cmp _ _ _ neither h = tt
  first_rises cmp _ _ _ (first x xs ys zs m) h = (all_of_first (λ y. cmp x y ≡ Less) xs ys zs m h.0, first_rises cmp xs ys zs m h.1)
  first_rises cmp _ _ _ (second y xs ys zs m) h = first_rises cmp xs ys zs m h.1

  -- what is before another in a rising list, each being of one of two lists, is not that other
  pub each_before : (cmp : X → X → Ordering) (R : X → X → Type 0) → ((x y : X) → cmp x y ≡ Less → R x y × R y x) → (xs ys zs : List X) → Interleaved xs ys zs → IsStrictlySortedBy cmp zs → (x y : X) → Contains xs x → Contains ys y → R x y
  unfolding IsStrictlySortedBy
  each_before cmp R f _ _ _ neither h x y c d = contains_none x c
  each_before cmp R f _ _ _ (first z xs ys zs m) h x y c d = elim (contains_cons z x xs c) [
    | inl e ↦ subst (λ w. R w y) e (f z y (all_contains (λ w. cmp z w ≡ Less) y zs h.0 (in_both y ys xs zs (swapped xs ys zs m) d))).0
    | inr k ↦ each_before cmp R f xs ys zs m h.1 x y k d
  ]
  each_before cmp R f _ _ _ (second z xs ys zs m) h x y c d = elim (contains_cons z y ys d) [
    | inl e ↦ subst (λ w. R x w) e (f z x (all_contains (λ w. cmp z w ≡ Less) x zs h.0 (in_both x xs ys zs m c))).1
    | inr k ↦ each_before cmp R f xs ys zs m h.1 x y c k
  ]

  not_both_less : (cmp : X → X → Ordering) → IsTotalOrder cmp → (x y : X) → cmp x y ≡ Less → cmp y x ≡ Less → ⊥
  not_both_less cmp t x y a b = let c : Less ≡ Greater = sym a ∙ t.antisymm x y ∙ ap ordering_reverse b in cc

  -- lists that rise are put together in one way
  pub one_interleaving : (cmp : X → X → Ordering) → IsTotalOrder cmp → (xs ys us vs : List X) → Interleaved xs ys us → Interleaved xs ys vs → IsStrictlySortedBy cmp us → IsStrictlySortedBy cmp vs → us ≡ vs
  unfolding IsStrictlySortedBy
  one_interleaving cmp t _ _ _ _ neither neither h k = refl
  one_interleaving cmp t _ _ _ _ (first x xs ys us m) (first _ _ _ vs n) h k = ap (λ (l : List X). x ∷ l) (one_interleaving cmp t xs ys us vs m n h.1 k.1)
  one_interleaving cmp t _ _ _ _ (first x xs _ us m) (second y _ ys vs n) h k =
      absurd (not_both_less cmp t x y
      (all_contains (λ w. cmp x w ≡ Less) y us h.0 (in_both y (y ∷ ys) xs us (swapped _ _ _ m) (contains_first y y ys refl)))
      (all_contains (λ w. cmp y w ≡ Less) x vs k.0 (in_both x (x ∷ xs) ys vs n (contains_first x x xs refl))))
  one_interleaving cmp t _ _ _ _ (second y _ ys us m) (first x xs _ vs n) h k =
      absurd (not_both_less cmp t x y
      (all_contains (λ w. cmp x w ≡ Less) y vs k.0 (in_both y (y ∷ ys) xs vs (swapped _ _ _ n) (contains_first y y ys refl)))
      (all_contains (λ w. cmp y w ≡ Less) x us h.0 (in_both x (x ∷ xs) ys us m (contains_first x x xs refl))))
  one_interleaving cmp t _ _ _ _ (second y xs ys us m) (second _ _ _ vs n) h k = ap (λ (l : List X). y ∷ l) (one_interleaving cmp t xs ys us vs m n h.1 k.1)
