-- The pairs of parts of which one reaches the other.
use Rattle.std.proofs.Common.{◌≡◌, ◌≢◌, ◌∙◌, ap, sym, refl, ℕ, zero, suc, ◌+◌, ◌<◌, ◌≤◌, List, [], ◌∷◌, ◌++◌, length, take, get_or, Vec, Global, true, cond, eqb, arith, subst, inl, inr}
use Rattle.std.specs.Prelude.{◌⊎◌, ◌↔◌, Contains, IfOk, IsTrue, Result, Ok, Err, min, max}
use Rattle.std.specs.List.{AllByRecursion}
use Rattle.std.specs.BTreeSet.{BTreeSet, contains, Updates}
use Rattle.std.specs.Ordering.{nat_cmp, is_eq}
use Rattle.std.specs.Cmp.{IsTotalOrder, nat_cmp_is}
use Rattle.std.proofs.lemmas.Cmp.{on_total, then_total, nat_cmp_total}
use Rattle.std.proofs.lemmas.Map.Views.{btree_set_contains_iff}
use Rattle.std.specs.declared.cmp.Ordering.{Ordering}
use Rattle.std.specs.declared.cmp.Ordering.TheVariants.{Less, Equal, Greater}
use Rattle.std.proofs.lemmas.Map.Lookups.{exact_pairs, exact_unsigned}
use Rattle.std.proofs.Math.Nat.{min_comm, max_comm}
use Rattle.span_clusters.specs.Interleavings.{Interleaved, AllInterleaved, IsWithin, EachPair, KeysDiffer}
use Rattle.span_clusters.specs.Interleavings.Interleaved.{neither, first, second}
use Rattle.span_clusters.specs.Parts.{Part, ReachesItems, ReachesPart, Cross, all_items}
use Rattle.span_clusters.specs.Jobs.{NumbersDiffer, AreBeforeBoth, CrossWith, CrossAs, ReachesAs, ReachesOneAs, pair_cmp}
use Rattle.span_clusters.proofs.Interleavings.{swapped, last_two_first, contains_cons, contains_first, contains_later, in_one, in_both, in_filter, kept_passes, passing_kept}

-- what holds of each two of a list, either way, holds of any two that differ
each_two : {X : Type 0} (R : X → X → Type 0) → ((x y : X) → R x y → R y x) → (xs : List X) → EachPair R xs → (x y : X) → Contains xs x → Contains xs y → (x ≡ y → ⊥) → R x y
each_two R back [] h x y c d n = absurd (omega (arith, c.1))
each_two {X} R back (z ∷ xs) h x y c d n = elim (contains_cons z x xs c) [
  | inl e ↦ elim (contains_cons z y xs d) [ inl f ↦ absurd (n (sym e ∙ f)) | inr b ↦ subst (λ w. R w y) e (at y xs h.0 b) ]
  | inr a ↦ elim (contains_cons z y xs d) [ inl f ↦ back y x (subst (λ w. R w x) f (at x xs h.0 a)) | inr b ↦ each_two R back xs h.1 x y a b n ]
]
  where
    at : {z : X} (w : X) (ws : List X) → AllByRecursion (R z) ws → Contains ws w → R z w
    at w [] h c = absurd (omega (arith, c.1))
    at w (v ∷ ws) h c = elim (contains_cons v w ws c) [ inl e ↦ subst (R _) e h.0 | inr d ↦ at w ws h.1 d ]

module _ {S I : Type 0} where
  -- the items of each part are among all
  pub each_within : (parts : List (Part S I)) (zs : List I) → AllInterleaved (all_items parts) zs → (p : Part S I) → Contains parts p → IsWithin p.items zs
  each_within [] zs m p c = absurd (omega (arith, c.1))
  each_within (q ∷ parts) zs m p c = elim (contains_cons q p parts c) [
    | inl e ↦ subst (λ (r : Part S I). IsWithin r.items zs) e (m.0, m.1)
    | inr d ↦ (
        let w : IsWithin p.items m.0 = each_within parts m.0 m.2 p d in
        let t : (os : List I) × Interleaved w.0 q.items os × Interleaved p.items os zs = last_two_first p.items w.0 m.0 q.items zs w.1 (swapped q.items m.0 zs m.1) in
        (t.0, t.2)
        )
  ]

module _ {S I : Type 0} (slot : I → ℕ) (is_before : S → ℕ → Type 0) where
  abbrev pub Early : S → List I → Type 0
  Early s xs = AllByRecursion (λ x. is_before s (slot x)) xs

  head_early : (p : Part S I) (parts : List (Part S I)) → AllByRecursion (AreBeforeBoth slot is_before p) parts → AllByRecursion (λ q. Early p.start q.items) parts
  head_early p [] h = tt
  head_early p (q ∷ parts) h = (h.0.there, head_early p parts h.1)

  back_early : (p r : Part S I) (parts : List (Part S I)) → AllByRecursion (AreBeforeBoth slot is_before r) parts → Contains parts p → Early p.start r.items
  back_early p r [] h c = absurd (omega (arith, c.1))
  back_early p r (q ∷ parts) h c = elim (contains_cons q p parts c) [ inl e ↦ subst (λ (u : Part S I). Early u.start r.items) e h.0.back | inr d ↦ back_early p r parts h.1 d ]

  -- a part is before the slots of all parts' items, its own among them
  pub early_of_each : (p : Part S I) (parts : List (Part S I)) → EachPair (AreBeforeBoth slot is_before) parts → Contains parts p → Early p.start p.items → AllByRecursion (λ q. Early p.start q.items) parts
  early_of_each p [] h c own = tt
  early_of_each p (r ∷ parts) h c own = elim (contains_cons r p parts c) [
    | inl e ↦ (
      subst (λ (u : Part S I). Early p.start u.items) (sym e) own,
      subst (λ (u : Part S I). AllByRecursion (λ (q : Part S I). Early u.start q.items) parts) e (head_early r parts h.0),
    )
    | inr d ↦ (back_early p r parts h.0 d, early_of_each p parts h.1 d own)
  ]

  both_hold : (P : I → Type 0) (xs ys zs : List I) → Interleaved xs ys zs → AllByRecursion P xs → AllByRecursion P ys → AllByRecursion P zs
  both_hold P _ _ _ neither h k = tt
  both_hold P _ _ _ (first x xs ys zs m) h k = (h.0, both_hold P xs ys zs m h.1 k)
  both_hold P _ _ _ (second y xs ys zs m) h k = (k.0, both_hold P xs ys zs m h k.1)

  pub early_of_all : (s : S) (parts : List (Part S I)) (zs : List I) → AllInterleaved (all_items parts) zs → AllByRecursion (λ q. Early s q.items) parts → Early s zs
  early_of_all s [] zs m h = subst (Early s) (sym m) tt
  early_of_all s (p ∷ parts) zs m h = both_hold (λ x. is_before s (slot x)) p.items m.0 zs m.1 h.0 (early_of_all s parts m.0 m.2 h.1)

module _ {S I : Type 0} (next : S → ℕ → List I → S) (slot : I → ℕ) (gates : S → ℕ → List I → I → Type 0) where
  abbrev pub IsPair : Part S I → Part S I → ℕ → ℕ → Type 0
  IsPair p q a b = ReachesAs next slot gates p q a b

  -- some of the parts reach some of all
  abbrev pub SomeReach : List (Part S I) → List (Part S I) → ℕ → ℕ → Type 0
  SomeReach [] all a b = ⊥
  SomeReach (p ∷ parts) all a b = ReachesOneAs next slot gates p all a b ⊎ SomeReach parts all a b

  pub reaches_more : (p q : Part S I) (parts : List (Part S I)) (a b : ℕ) → ReachesOneAs next slot gates p (parts ++ q ∷ []) a b ↔ (ReachesOneAs next slot gates p parts a b ⊎ IsPair p q a b)
  reaches_more p q [] a b = (λ h. elim h [ inl x ↦ inr x | inr y ↦ absurd y ], λ h. elim h [ inl x ↦ absurd x | inr y ↦ inl y ])
  reaches_more p q (r ∷ parts) a b =
      let rest : ReachesOneAs next slot gates p (parts ++ q ∷ []) a b ↔ (ReachesOneAs next slot gates p parts a b ⊎ IsPair p q a b) = reaches_more p q parts a b in (
        λ h. elim h [ inl x ↦ inl (inl x) | inr y ↦ elim (rest.0 y) [ inl u ↦ inl (inr u) | inr v ↦ inr v ] ],
        λ h. elim h [ inl x ↦ elim x [ inl u ↦ inl u | inr v ↦ inr (rest.1 (inl v)) ] | inr y ↦ inr (rest.1 (inr y)) ],
      )

  pub some_more : (p : Part S I) (parts all : List (Part S I)) (a b : ℕ) → SomeReach (parts ++ p ∷ []) all a b ↔ (SomeReach parts all a b ⊎ ReachesOneAs next slot gates p all a b)
  some_more p [] all a b = (λ h. elim h [ inl x ↦ inr x | inr y ↦ absurd y ], λ h. elim h [ inl x ↦ absurd x | inr y ↦ inl y ])
  some_more p (r ∷ parts) all a b =
      let rest : SomeReach (parts ++ p ∷ []) all a b ↔ (SomeReach parts all a b ⊎ ReachesOneAs next slot gates p all a b) = some_more p parts all a b in (
        λ h. elim h [ inl x ↦ inl (inl x) | inr y ↦ elim (rest.0 y) [ inl u ↦ inl (inr u) | inr v ↦ inr v ] ],
        λ h. elim h [ inl x ↦ elim x [ inl u ↦ inl u | inr v ↦ inr (rest.1 (inl v)) ] | inr y ↦ inr (rest.1 (inr y)) ],
      )

  reached : (p : Part S I) (parts : List (Part S I)) (a b : ℕ) → ReachesOneAs next slot gates p parts a b → (q : Part S I) × Contains parts q × IsPair p q a b
  reached p [] a b h = absurd h
  reached p (q ∷ parts) a b h = elim h [
    | inl x ↦ (q, contains_first q q parts refl, x)
    | inr y ↦ (let r : (q : Part S I) × Contains parts q × IsPair p q a b = reached p parts a b y in (r.0, contains_later q r.0 parts r.1, r.2))
  ]

  reaching : (p q : Part S I) (parts : List (Part S I)) (a b : ℕ) → Contains parts q → IsPair p q a b → ReachesOneAs next slot gates p parts a b
  reaching p q [] a b c h = absurd (omega (arith, c.1))
  reaching p q (r ∷ parts) a b c h = elim (contains_cons r q parts c) [ inl e ↦ inl (subst (λ (s : Part S I). IsPair p s a b) (sym e) h) | inr d ↦ inr (reaching p q parts a b d h) ]

  -- a part that reaches no other's item reaches none of the parts
  pub reaches_none : {K : Type 0} (key : I → K) (parts : List (Part S I)) (all others : List I) → EachPair (λ p q. KeysDiffer key p.items q.items) parts → AllInterleaved (all_items parts) all → (p : Part S I) → Contains parts p
      → Interleaved p.items others all → (ReachesItems next slot gates p.start p.items others → ⊥) → (a b : ℕ) → ReachesOneAs next slot gates p parts a b → ⊥
  reaches_none key parts all others d m p c i none a b h =
      let r : (q : Part S I) × Contains parts q × IsPair p q a b = reached p parts a b h in
      let q = r.0 in
      let n = r.2.3.0 in
      let x = r.2.3.1.0 in
      let at : Contains q.items x = in_filter (λ z. eqb (slot z) n) x q.items r.2.3.1.1 in
      let w : IsWithin q.items all = each_within parts all m q r.1 in
      let differ : KeysDiffer key p.items q.items = each_two (λ (u v : Part S I). KeysDiffer key u.items v.items) (λ u v k y z e f g. k z y f e (sym g)) parts d p q c r.1 (λ e. r.2.2 (ap (λ (u : Part S I). u.number) e)) in
      elim (in_one x p.items others all i (in_both x q.items w.0 all w.1 at)) [
        | inl own ↦ differ x x own at refl
        | inr other ↦ none (n, (x, passing_kept (λ z. eqb (slot z) n) x others other (kept_passes (λ z. eqb (slot z) n) x q.items r.2.3.1.1), r.2.3.1.2))
      ]

  with_one : (p q : Part S I) (parts : List (Part S I)) (a b : ℕ) → Contains parts q → (a ≡ min p.number q.number) → (b ≡ max p.number q.number) → Cross next slot gates p q → CrossWith next slot gates p parts a b
  with_one p q [] a b c ea eb x = absurd (omega (arith, c.1))
  with_one p q (r ∷ parts) a b c ea eb x = elim (contains_cons r q parts c) [
    | inl e ↦ inl (subst (λ (s : Part S I). (a ≡ min p.number s.number) × (b ≡ max p.number s.number) × Cross next slot gates p s) (sym e) (ea, eb, x))
    | inr d ↦ inr (with_one p q parts a b d ea eb x)
  ]

  crossing : (parts : List (Part S I)) (p q : Part S I) (a b : ℕ) → Contains parts p → Contains parts q → IsPair p q a b → CrossAs next slot gates parts a b
  crossing [] p q a b c d h = absurd (omega (arith, c.1))
  crossing (r ∷ parts) p q a b c d h = elim (contains_cons r p parts c) [
    | inl e ↦ elim (contains_cons r q parts d) [
      | inl f ↦ absurd (h.2 (ap (λ (u : Part S I). u.number) (sym e ∙ f)))
      | inr k ↦ inl (subst (λ (u : Part S I). CrossWith next slot gates u parts a b) (sym e) (with_one p q parts a b k h.0 h.1 (inl h.3)))
    ]
    | inr j ↦ elim (contains_cons r q parts d) [
      | inl f ↦ inl (subst (λ (u : Part S I). CrossWith next slot gates u parts a b) (sym f) (with_one q p parts a b j (h.0 ∙ min_comm p.number q.number) (h.1 ∙ max_comm p.number q.number) (inr h.3)))
      | inr k ↦ inr (crossing parts p q a b j k h)
    ]
  ]

  some_reaching : (parts all : List (Part S I)) (p q : Part S I) (a b : ℕ) → Contains parts p → Contains all q → IsPair p q a b → SomeReach parts all a b
  some_reaching [] all p q a b c d h = absurd (omega (arith, c.1))
  some_reaching (r ∷ parts) all p q a b c d h = elim (contains_cons r p parts c) [
    | inl e ↦ inl (subst (λ (u : Part S I). ReachesOneAs next slot gates u all a b) (sym e) (reaching p q all a b d h))
    | inr j ↦ inr (some_reaching parts all p q a b j d h)
  ]

  all_crossing : (parts all : List (Part S I)) (a b : ℕ) → ((r : Part S I) → Contains parts r → Contains all r) → SomeReach parts all a b → CrossAs next slot gates all a b
  all_crossing [] all a b f h = absurd h
  all_crossing (p ∷ parts) all a b f h = elim h [
    | inl x ↦ (let r : (q : Part S I) × Contains all q × IsPair p q a b = reached p all a b x in crossing all p r.0 a b (f p (contains_first p p parts refl)) r.1 r.2)
    | inr y ↦ all_crossing parts all a b (λ r c. f r (contains_later p r parts c)) y
  ]

  found_with : (p : Part S I) (parts all : List (Part S I)) (a b : ℕ) → AllByRecursion (λ (q : Part S I). p.number ≢ q.number) parts → Contains all p → ((r : Part S I) → Contains parts r → Contains all r) → CrossWith next slot gates p parts a b → SomeReach all all a b
  found_with p [] all a b d c f h = absurd h
  found_with p (q ∷ parts) all a b d c f h = elim h [
    | inl x ↦ elim x.2 [
      | inl there ↦ some_reaching all all p q a b c (f q (contains_first q q parts refl)) (x.0, x.1, d.0, there)
      | inr back ↦ some_reaching all all q p a b (f q (contains_first q q parts refl)) c (x.0 ∙ min_comm p.number q.number, x.1 ∙ max_comm p.number q.number, (λ e. d.0 (sym e)), back)
    ]
    | inr y ↦ found_with p parts all a b d.1 c (λ r k. f r (contains_later q r parts k)) y
  ]

  all_found : (parts all : List (Part S I)) (a b : ℕ) → NumbersDiffer parts → ((r : Part S I) → Contains parts r → Contains all r) → CrossAs next slot gates parts a b → SomeReach all all a b
  all_found [] all a b d f h = absurd h
  all_found (p ∷ parts) all a b d f h = elim h [
    | inl x ↦ found_with p parts all a b d.0 (f p (contains_first p p parts refl)) (λ r c. f r (contains_later p r parts c)) x
    | inr y ↦ all_found parts all a b d.1 (λ r c. f r (contains_later p r parts c)) y
  ]

  pub reach_is_cross : (parts : List (Part S I)) (a b : ℕ) → NumbersDiffer parts → SomeReach parts parts a b ↔ CrossAs next slot gates parts a b
  reach_is_cross parts a b d = (all_crossing parts parts a b (λ r c. c), all_found parts parts a b d (λ r c. c))

-- the set of pairs with one more
pub inserted : (s n : BTreeSet (ℕ × ℕ)) (k : ℕ × ℕ) → Updates pair_cmp s n k true → (q : ℕ × ℕ) → IsTrue (contains pair_cmp n q) ↔ (IsTrue (contains pair_cmp s q) ⊎ (k ≡ q))
inserted s n k u q = (λ t. there (pair_cmp k q) refl (subst IsTrue (u.0 q) t), λ h. subst IsTrue (sym (u.0 q)) (back (pair_cmp k q) refl h))
  where
    there : (o : Ordering) → o ≡ pair_cmp k q → IsTrue (cond (is_eq o) true (contains pair_cmp s q)) → IsTrue (contains pair_cmp s q) ⊎ (k ≡ q)
    there Less e t = inl t
    there Equal e t = inr (exact_pairs nat_cmp nat_cmp exact_unsigned exact_unsigned k q (sym e))
    there Greater e t = inl t

    tied : k ≡ q → pair_cmp k q ≡ Equal
    tied e = subst (λ z. pair_cmp k z ≡ Equal) e (rw (sym (nat_cmp_is k.0 k.0 Equal refl), sym (nat_cmp_is k.1 k.1 Equal refl)) refl)

    back : (o : Ordering) → o ≡ pair_cmp k q → IsTrue (contains pair_cmp s q) ⊎ (k ≡ q) → IsTrue (cond (is_eq o) true (contains pair_cmp s q))
    back Less e h = elim h [ inl t ↦ t | inr f ↦ (let c : Less ≡ Equal = e ∙ tied f in cc) ]
    back Equal e h = refl
    back Greater e h = elim h [ inl t ↦ t | inr f ↦ (let c : Greater ≡ Equal = e ∙ tied f in cc) ]

pairs_total : IsTotalOrder pair_cmp
pairs_total = then_total (on_total (λ (p : ℕ × ℕ). p.0) nat_cmp_total) (on_total (λ (p : ℕ × ℕ). p.1) nat_cmp_total)

pub keys_are : (s : BTreeSet (ℕ × ℕ)) (q : ℕ × ℕ) → IsTrue (contains pair_cmp s q) ↔ Contains s.keys q
keys_are s q = btree_set_contains_iff pairs_total (exact_pairs nat_cmp nat_cmp exact_unsigned exact_unsigned) s q

-- what was found goes on: nothing more, one pair more, and what a further step adds
pub none_more : (s : BTreeSet (ℕ × ℕ)) (P : ℕ → ℕ → Type 0) → ((a b : ℕ) → P a b → ⊥) → (a b : ℕ) → IsTrue (contains pair_cmp s (a, b)) ↔ (IsTrue (contains pair_cmp s (a, b)) ⊎ P a b)
none_more s P none a b = (λ t. inl t, λ h. elim h [ inl t ↦ t | inr x ↦ absurd (none a b x) ])

pub one_more : {S I : Type 0} (next : S → ℕ → List I → S) (slot : I → ℕ) (gates : S → ℕ → List I → I → Type 0) (p q : Part S I) (s n : BTreeSet (ℕ × ℕ)) (lo hi : ℕ) → lo ≡ min p.number q.number → hi ≡ max p.number q.number → p.number ≢ q.number
    → ReachesPart next slot gates p q → Updates pair_cmp s n (lo, hi) true → (a b : ℕ) → IsTrue (contains pair_cmp n (a, b)) ↔ (IsTrue (contains pair_cmp s (a, b)) ⊎ ReachesAs next slot gates p q a b)
one_more next slot gates p q s n lo hi el eh differ reach u a b =
    let one : IsTrue (contains pair_cmp n (a, b)) ↔ (IsTrue (contains pair_cmp s (a, b)) ⊎ ((lo, hi) ≡ (a, b))) = inserted s n (lo, hi) u (a, b) in (
      λ t. elim (one.0 t) [ inl h ↦ inl h | inr e ↦ inr (sym (ap (λ (z : ℕ × ℕ). z.0) e) ∙ el, sym (ap (λ (z : ℕ × ℕ). z.1) e) ∙ eh, differ, reach) ],
      λ h. one.1 (elim h [ inl t ↦ inl t | inr x ↦ inr (λ i. ((el ∙ sym x.0) i, (eh ∙ sym x.1) i)) ]),
    )

pub goes_on : (New Found Old Reach More Step : Type 0) → New ↔ (Found ⊎ Step) → Found ↔ (Old ⊎ Reach) → More ↔ (Reach ⊎ Step) → New ↔ (Old ⊎ More)
goes_on New Found Old Reach More Step step found more = (
  λ t. elim (step.0 t) [
    | inl f ↦ elim (found.0 f) [ inl o ↦ inl o | inr r ↦ inr (more.1 (inl r)) ]
    | inr x ↦ inr (more.1 (inr x))
  ],
  λ h. elim h [
    | inl o ↦ step.1 (inl (found.1 (inl o)))
    | inr m ↦ elim (more.0 m) [ inl r ↦ step.1 (inl (found.1 (inr r))) | inr x ↦ step.1 (inr x) ]
  ],
)

pub adds_up : (New Found Reach More Step : Type 0) → New ↔ (Found ⊎ Step) → Found ↔ Reach → More ↔ (Reach ⊎ Step) → New ↔ More
adds_up New Found Reach More Step step found more = (
  λ t. elim (step.0 t) [ inl f ↦ more.1 (inl (found.0 f)) | inr x ↦ more.1 (inr x) ],
  λ m. elim (more.0 m) [ inl r ↦ step.1 (inl (found.1 r)) | inr x ↦ step.1 (inr x) ],
)

-- one more of the first elements of a list
pub take_more : {X : Type 0} (i : ℕ) (xs : List X) (x : X) → i < length xs → x ≡ get_or xs i x → take (i + 1) xs ≡ take i xs ++ x ∷ []
take_more i [] x l e = absurd (omega (arith, l))
take_more zero (y ∷ xs) x l e = λ i. sym e i ∷ []
take_more {X} (suc i) (y ∷ xs) x l e = let more : suc i + 1 ≡ suc (i + 1) = omega arith in rw more (ap (λ (ys : List X). y ∷ ys) (take_more i xs x (omega (arith, l)) e))

pub take_whole : {X : Type 0} (i : ℕ) (xs : List X) → length xs ≤ i → take i xs ≡ xs
take_whole zero [] l = refl
take_whole (suc i) [] l = refl
take_whole zero (x ∷ xs) l = absurd (omega (arith, l))
take_whole (suc i) (x ∷ xs) l = ap (λ (ys : List _). x ∷ ys) (take_whole i xs (omega (arith, l)))

-- the pairs of the set are those that cross
pub all_told : {S I E : Type 0} (next : S → ℕ → List I → S) (slot : I → ℕ) (gates : S → ℕ → List I → I → Type 0) (parts : List (Part S I)) → NumbersDiffer parts → (front : List (Part S I)) → front ≡ parts → (found : BTreeSet (ℕ × ℕ))
    → ((a b : ℕ) → IsTrue (contains pair_cmp found (a, b)) ↔ SomeReach next slot gates front parts a b) → (r : Result (Vec (ℕ × ℕ) Global) E) → IfOk r (λ pairs. pairs.items ≡ found.keys)
    → IfOk r (λ pairs. (a b : ℕ) → Contains pairs.items (a, b) ↔ CrossAs next slot gates parts a b)
all_told next slot gates parts d front f found h (Ok pairs) e = λ a b.
    let keys : IsTrue (contains pair_cmp found (a, b)) ↔ Contains found.keys (a, b) = keys_are found (a, b) in
    let some : IsTrue (contains pair_cmp found (a, b)) ↔ SomeReach next slot gates parts parts a b = subst (λ ps. IsTrue (contains pair_cmp found (a, b)) ↔ SomeReach next slot gates ps parts a b) f (h a b) in
    let cross : SomeReach next slot gates parts parts a b ↔ CrossAs next slot gates parts a b = reach_is_cross next slot gates parts a b d in (
      λ c. cross.0 (some.0 (keys.1 (subst (λ l. Contains l (a, b)) e c))),
      λ x. subst (λ l. Contains l (a, b)) (sym e) (keys.0 (some.1 (cross.1 x))),
    )
all_told next slot gates parts d front f found h (Err x) e = tt
