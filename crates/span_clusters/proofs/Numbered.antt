-- Numbered members and items make a splitting.
use Rattle.std.proofs.Common.{◌≡◌, ◌≢◌, ◌∙◌, ap, sym, refl, ℕ, ◌≤◌, List, [], ◌∷◌, length, map, Bool, true, false, cond, eqb, arith, subst, inl, inr}
use Rattle.std.specs.Prelude.{Contains, fold, ◌&&◌, ◌||◌}
use Rattle.std.specs.List.{AllByRecursion}
use Rattle.std.proofs.lemmas.Bool.{eqb-true, cond_both, eq-eqb}
use Rattle.span_clusters.specs.Interleavings.{Interleaved, AllInterleaved, EachPair}
use Rattle.span_clusters.specs.Parts.{Part, IsSplitting, starts, all_items, picked_items, numbered}
use Rattle.span_clusters.specs.Interleavings.Interleaved.{neither, first, second}
use Rattle.span_clusters.proofs.Interleavings.{last_two_first, none_behind, contains_cons}
use Rattle.span_clusters.proofs.OneSlot.{all_weaker}

abbrev pub Disjoint : (ℕ → Bool) → (ℕ → Bool) → Type 0
Disjoint f g = (k : ℕ) → (f k && g k) ≡ false

-- the test of one number more
abbrev or_is : (ℕ → Bool) → ℕ → ℕ → Bool
or_is f k j = f j || eqb j k

abbrev any_of : (ℕ → Bool) → List ℕ → ℕ → Bool
any_of f [] = f
any_of f (k ∷ ks) = any_of (or_is f k) ks

or_left : (a b : Bool) → a ≡ true → (a || b) ≡ true
or_left true b e = refl
or_left false b e = cc

or_right : (a b : Bool) → b ≡ true → (a || b) ≡ true
or_right true b e = refl
or_right false b e = e

stays_any : (f : ℕ → Bool) (ks : List ℕ) (j : ℕ) → f j ≡ true → any_of f ks j ≡ true
stays_any f [] j e = e
stays_any f (k ∷ ks) j e = stays_any (or_is f k) ks j (or_left (f j) (eqb j k) e)

in_any : (f : ℕ → Bool) (ks : List ℕ) (j : ℕ) → Contains ks j → any_of f ks j ≡ true
in_any f [] j c = absurd (omega (arith, c.1))
in_any f (k ∷ ks) j c = elim (contains_cons k j ks c) [
  | inl e ↦ stays_any (or_is f k) ks j (or_right (f j) (eqb j k) (eq-eqb j k (sym e)))
  | inr d ↦ in_any (or_is f k) ks j d
]

and_eq : (f : ℕ → Bool) (j k : ℕ) → f k ≡ false → (f j && eqb j k) ≡ false
and_eq f j k e = cond_both (eqb j k) true false (λ b. eqb j k ≡ b → (f j && eqb j k) ≡ false)
    (λ t q. rw (ap f (eqb-true j k t) ∙ e) refl) (λ t q. go (f j) (eqb j k) t) (cond_id (eqb j k))
  where
    go : (a b : Bool) → b ≡ false → (a && b) ≡ false
    go true b e = e
    go false b e = refl

    cond_id : (b : Bool) → b ≡ cond b true false
    cond_id true = refl
    cond_id false = refl

or_false : (f : ℕ → Bool) (j k : ℕ) → f j ≡ false → j ≢ k → or_is f k j ≡ false
or_false f j k e n = rw e (cond_both (eqb j k) true false (λ b. eqb j k ≡ b → eqb j k ≡ false) (λ t q. absurd (n (eqb-true j k t))) (λ t q. t) (cond_id (eqb j k)))
  where
    cond_id : (b : Bool) → b ≡ cond b true false
    cond_id true = refl
    cond_id false = refl

later_false : (f : ℕ → Bool) (k : ℕ) (ks : List ℕ) → AllByRecursion (λ j. f j ≡ false) ks → AllByRecursion (λ j. k ≢ j) ks → AllByRecursion (λ j. or_is f k j ≡ false) ks
later_false f k [] h d = tt
later_false f k (j ∷ ks) h d = (or_false f j k h.0 (λ e. d.0 (sym e)), later_false f k ks h.1 d.1)

pub picks_mix : {I : Type 0} (f g : ℕ → Bool) (numbers : List ℕ) (xs : List I) → Disjoint f g → Interleaved (picked_items f numbers xs) (picked_items g numbers xs) (picked_items (λ k. f k || g k) numbers xs)
picks_mix f g [] xs d = neither
picks_mix f g (k ∷ numbers) [] d = neither
picks_mix {I} f g (k ∷ numbers) (x ∷ xs) d = go (f k) (g k) (d k) (picks_mix f g numbers xs d)
  where
    go : (a b : Bool) → (a && b) ≡ false → {us vs ws : List I} → Interleaved us vs ws → Interleaved (cond a (x ∷ us) us) (cond b (x ∷ vs) vs) (cond (a || b) (x ∷ ws) ws)
    go true true e m = cc
    go true false e m = first x _ _ _ m
    go false true e m = second x _ _ _ m
    go false false e m = m

pub picks_all_items : {I : Type 0} (f : ℕ → Bool) (numbers : List ℕ) (xs : List I) → length numbers ≡ length xs → AllByRecursion (λ k. f k ≡ true) numbers → picked_items f numbers xs ≡ xs
picks_all_items f [] [] l h = refl
picks_all_items f [] (x ∷ xs) l h = absurd (omega (arith, l))
picks_all_items f (k ∷ numbers) [] l h = absurd (omega (arith, l))
picks_all_items {I} f (k ∷ numbers) (x ∷ xs) l h = rw h.0 (ap (λ (ys : List I). x ∷ ys) (picks_all_items f numbers xs (omega (arith, l)) h.1))

-- what is picked number by number is put together
mixed_picks : {I : Type 0} (f : ℕ → Bool) (ks : List ℕ) (numbers : List ℕ) (xs : List I) → AllByRecursion (λ k. f k ≡ false) ks → EachPair (λ i j. i ≢ j) ks
    → AllInterleaved (picked_items f numbers xs ∷ map (λ k. picked_items (λ j. eqb j k) numbers xs) ks) (picked_items (any_of f ks) numbers xs)
mixed_picks f [] numbers xs h d = ([], none_behind (picked_items f numbers xs), refl)
mixed_picks {I} f (k ∷ ks) numbers xs h d =
    let r : AllInterleaved (picked_items (or_is f k) numbers xs ∷ map (λ k. picked_items (λ j. eqb j k) numbers xs) ks) (picked_items (any_of (or_is f k) ks) numbers xs) = mixed_picks (or_is f k) ks numbers xs (later_false f k ks h.1 d.0) d.1 in
    let m : Interleaved (picked_items f numbers xs) (picked_items (λ j. eqb j k) numbers xs) (picked_items (or_is f k) numbers xs) = picks_mix f (λ j. eqb j k) numbers xs (λ j. and_eq f j k h.0) in
    let t : (ws : List I) × Interleaved (picked_items (λ j. eqb j k) numbers xs) r.0 ws × Interleaved (picked_items f numbers xs) ws (picked_items (any_of (or_is f k) ks) numbers xs) = last_two_first _ _ _ _ _ m r.1 in
    (t.0, t.2, (r.0, t.1, r.2))

module _ {S I : Type 0} (slot : I → ℕ) (is_before : S → ℕ → Type 0) (is_beside : S → S → Type 0) (merged : S → S → S) (count : S → ℕ) (picked : S → List ℕ → (ℕ → Bool) → S)
    (stays_before : (s : S) (a b : ℕ) → a ≤ b → is_before s a → is_before s b)
    (picks_all : (s : S) (numbers : List ℕ) (f : ℕ → Bool) → length numbers ≡ count s → AllByRecursion (λ k. f k ≡ true) numbers → picked s numbers f ≡ s)
    (picks_before : (s : S) (numbers : List ℕ) (f : ℕ → Bool) (n : ℕ) → length numbers ≡ count s → is_before s n → is_before (picked s numbers f) n)
    (picks_beside : (s : S) (numbers : List ℕ) (f g : ℕ → Bool) (n : ℕ) → length numbers ≡ count s → is_before s n → ((k : ℕ) → (f k && g k) ≡ false) → is_beside (picked s numbers f) (picked s numbers g))
    (picks_merged : (s : S) (numbers : List ℕ) (f g : ℕ → Bool) (n : ℕ) → length numbers ≡ count s → is_before s n → ((k : ℕ) → (f k && g k) ≡ false) → merged (picked s numbers f) (picked s numbers g) ≡ picked s numbers (λ k. f k || g k))
    (s : S) (xs : List I) (members items : List ℕ) (low : ℕ) (count_is : length members ≡ count s) (before : is_before s low) where
  part : ℕ → Part S I
  part k = numbered picked s xs members items k

  merged_picks : (f : ℕ → Bool) (ks : List ℕ) → AllByRecursion (λ k. f k ≡ false) ks → EachPair (λ i j. i ≢ j) ks → fold merged (picked s members f) (starts (map (numbered picked s xs members items) ks)) ≡ picked s members (any_of f ks)
  merged_picks f [] h d = refl
  merged_picks f (k ∷ ks) h d =
      ap (λ t. fold merged t (starts (map (numbered picked s xs members items) ks))) (picks_merged s members f (λ j. eqb j k) low count_is before (λ j. and_eq f j k h.0))
      ∙ merged_picks (or_is f k) ks (later_false f k ks h.1 d.0) d.1

  items_are : (ks : List ℕ) → all_items (map (numbered picked s xs members items) ks) ≡ map (λ k. picked_items (λ j. eqb j k) items xs) ks
  items_are [] = refl
  items_are (k ∷ ks) = ap (λ (l : List (List I)). picked_items (λ j. eqb j k) items xs ∷ l) (items_are ks)

  is_not : (k : ℕ) (ks : List ℕ) → AllByRecursion (λ j. k ≢ j) ks → AllByRecursion (λ j. eqb j k ≡ false) ks
  is_not k [] h = tt
  is_not k (j ∷ ks) h = (or_false (λ i. false) j k refl (λ e. h.0 (sym e)), is_not k ks h.1)

  beside_one : (k : ℕ) (ks : List ℕ) → AllByRecursion (λ j. k ≢ j) ks → AllByRecursion (λ (r : Part S I). is_beside (picked s members (λ j. eqb j k)) r.start) (map (numbered picked s xs members items) ks)
  beside_one k [] h = tt
  beside_one k (j ∷ ks) h = (picks_beside s members (λ i. eqb i k) (λ i. eqb i j) low count_is before (λ i. and_eq (λ x. eqb x k) i j (or_false (λ x. false) j k refl (λ e. h.0 (sym e)))), beside_one k ks h.1)

  beside_all : (ks : List ℕ) → EachPair (λ i j. i ≢ j) ks → EachPair (λ (q r : Part S I). is_beside q.start r.start) (map (numbered picked s xs members items) ks)
  beside_all [] d = tt
  beside_all (k ∷ ks) d = (beside_one k ks d.0, beside_all ks d.1)

  before_all : AllByRecursion (λ x. low ≤ slot x) xs → (ks : List ℕ) → AllByRecursion (λ (q : Part S I). AllByRecursion (λ x. is_before q.start (slot x)) xs) (map (numbered picked s xs members items) ks)
  before_all h [] = tt
  before_all h (k ∷ ks) =
      (all_weaker (λ x. low ≤ slot x) (λ x. is_before (picked s members (λ j. eqb j k)) (slot x)) xs (λ x l. stays_before _ low (slot x) l (picks_before s members (λ j. eqb j k) low count_is before)) h, before_all h ks)

  pub numbered_splitting : (k : ℕ) (ks : List ℕ) → length items ≡ length xs → EachPair (λ i j. i ≢ j) (k ∷ ks) → AllByRecursion (Contains (k ∷ ks)) members → AllByRecursion (Contains (k ∷ ks)) items
      → AllByRecursion (λ x. low ≤ slot x) xs → IsSplitting slot is_before is_beside merged s xs (map (numbered picked s xs members items) (k ∷ ks))
  numbered_splitting k ks l d hm hi h =
      let test : ℕ → Bool = λ j. eqb j k in
      let passes : (j : ℕ) → Contains (k ∷ ks) j → any_of test ks j ≡ true = λ j c. elim (contains_cons k j ks c) [ inl e ↦ stays_any test ks j (eq-eqb j k (sym e)) | inr b ↦ in_any test ks j b ] in
      record {
        state = sym (merged_picks test ks (is_not k ks d.0) d.1 ∙ picks_all s members (any_of test ks) count_is (all_weaker (Contains (k ∷ ks)) (λ j. any_of test ks j ≡ true) members passes hm));
        items = subst (λ (ys : List I). AllInterleaved (all_items (map (numbered picked s xs members items) (k ∷ ks))) ys) (picks_all_items (any_of test ks) items xs l (all_weaker (Contains (k ∷ ks)) (λ j. any_of test ks j ≡ true) items passes hi))
            (subst (λ (yss : List (List I)). AllInterleaved (picked_items test items xs ∷ yss) (picked_items (any_of test ks) items xs)) (sym (items_are ks)) (mixed_picks test ks items xs (is_not k ks d.0) d.1));
        beside = beside_all (k ∷ ks) d;
        before = before_all h (k ∷ ks);
      }

  pub splitting : (ks : List ℕ) → length items ≡ length xs → EachPair (λ i j. i ≢ j) ks → 1 ≤ length ks → AllByRecursion (Contains ks) members → AllByRecursion (Contains ks) items
      → AllByRecursion (λ x. low ≤ slot x) xs → IsSplitting slot is_before is_beside merged s xs (map (numbered picked s xs members items) ks)
  splitting [] l d o hm hi h = absurd (omega (arith, o))
  splitting (k ∷ ks) l d o hm hi h = numbered_splitting k ks l d hm hi h
