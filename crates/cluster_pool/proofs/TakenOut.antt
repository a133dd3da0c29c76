-- Parts taken out of a list of parts.
use Rattle.std.proofs.Common.{◌≡◌, ◌≢◌, ◌∙◌, ap, sym, refl, subst, ℕ, zero, suc, ◌+◌, ◌<◌, List, [], ◌∷◌, ◌++◌, length, take, drop, get_or, arith, inl, inr}
use Rattle.std.specs.Prelude.{Contains, min, max}
use Rattle.std.specs.List.{AllByRecursion}
use Rattle.std.proofs.lemmas.Bool.{cases_lt}
use Rattle.late_window.specs.Folding.{BeforeFirst}
use Rattle.span_clusters.specs.Interleavings.{KeysDiffer, EachPair}
use Rattle.span_clusters.specs.Parts.{Part, Cross, Without, joined}
use Rattle.span_clusters.specs.Jobs.{NumbersDiffer, AreBeforeBoth, AreParts, CrossWith, CrossAs, part_numbers}
use Rattle.span_clusters.proofs.Interleavings.{contains_first, contains_later, contains_cons}
use Rattle.cluster_pool.specs.Joins.{LackNumber, HaveNumbers, AreTaken, AreNumbers}

pub empty_lacks : {X : Type 0} (xs : List X) (x : X) → length xs ≡ 0 → Contains xs x → ⊥
empty_lacks [] x e c = omega (arith, c.1)
empty_lacks (y ∷ xs) x e c = omega (arith, e)

-- the state is before the first item's slot
pub some_before : {S I : Type 0} (is_before : S → ℕ → Type 0) (slot : I → ℕ) (s : S) (xs : List I) → 0 < length xs → BeforeFirst is_before slot s xs → (n : ℕ) × is_before s n
some_before is_before slot s [] l b = absurd (omega (arith, l))
some_before is_before slot s (x ∷ xs) l b = (slot x, b)

pub contains_at : {X : Type 0} (xs : List X) (i : ℕ) (x : X) → i < length xs → x ≡ get_or xs i x → Contains xs x
contains_at [] i x l e = absurd (omega (arith, l))
contains_at (y ∷ xs) zero x l e = contains_first y x xs (sym e)
contains_at (y ∷ xs) (suc i) x l e = contains_later y x xs (contains_at xs i x (omega (arith, l)) e)

module _ {S I : Type 0} where
  pub without_length : (p : Part S I) (parts rest : List (Part S I)) → Without p parts rest → length rest + 1 ≡ length parts
  without_length p [] rest w = absurd w
  without_length p (q ∷ parts) rest (inl (e, f)) = let g : length rest ≡ length parts = ap length f in omega (arith, g)
  without_length p (q ∷ parts) rest (inr (others, f, v)) = let g : length rest ≡ length (q ∷ others) = ap length f in omega (arith, g, without_length p parts others v)

  pub without_behind : (p : Part S I) (jobs parts rest : List (Part S I)) → Without p parts rest → Without p (jobs ++ parts) (jobs ++ rest)
  without_behind p [] parts rest w = w
  without_behind p (q ∷ jobs) parts rest w = inr (jobs ++ rest, refl, without_behind p jobs parts rest w)

  pub without_at : (parts : List (Part S I)) (i : ℕ) (p : Part S I) → i < length parts → p ≡ get_or parts i p → Without p parts (take i parts ++ drop (suc i) parts)
  without_at [] i p l e = absurd (omega (arith, l))
  without_at (q ∷ parts) zero p l e = inl (e, refl)
  without_at (q ∷ parts) (suc i) p l e = inr (take i parts ++ drop (suc i) parts, refl, without_at parts i p (omega (arith, l)) e)

  pub all_without : (P : Part S I → Type 0) (p : Part S I) (parts rest : List (Part S I)) → Without p parts rest → AllByRecursion P parts → P p × AllByRecursion P rest
  all_without P p [] rest w h = absurd w
  all_without P p (q ∷ parts) rest (inl (e, f)) h = (subst P (sym e) h.0, subst (AllByRecursion P) (sym f) h.1)
  all_without P p (q ∷ parts) rest (inr (others, f, v)) h = let r : P p × AllByRecursion P others = all_without P p parts others v h.1 in (r.0, subst (AllByRecursion P) (sym f) (h.0, r.1))

  -- what holds of each two holds of those that are left, and of the one that is gone with each of them
  pub pairs_without : (R : Part S I → Part S I → Type 0) → ((p q : Part S I) → R p q → R q p) → (p : Part S I) (parts rest : List (Part S I)) → Without p parts rest → EachPair R parts → AllByRecursion (R p) rest × EachPair R rest
  pairs_without R back p [] rest w h = absurd w
  pairs_without R back p (q ∷ parts) rest (inl (e, f)) h = (subst (AllByRecursion (R p)) (sym f) (subst (λ a. AllByRecursion (R a) parts) (sym e) h.0), subst (EachPair R) (sym f) h.1)
  pairs_without R back p (q ∷ parts) rest (inr (others, f, v)) h =
      let r : AllByRecursion (R p) others × EachPair R others = pairs_without R back p parts others v h.1 in
      let g : R q p × AllByRecursion (R q) others = all_without (R q) p parts others v h.0 in
      (subst (AllByRecursion (R p)) (sym f) (back q p g.0, r.0), subst (EachPair R) (sym f) (g.1, r.1))

  -- of two that are gone, what holds of each two holds
  pub of_two : (R : Part S I → Part S I → Type 0) → ((p q : Part S I) → R p q → R q p) → (p q : Part S I) (parts rest : List (Part S I)) → AreTaken p q parts rest → EachPair R parts → R p q × EachPair R rest
  of_two R back p q parts rest t h =
      let one : AllByRecursion (R p) t.others × EachPair R t.others = pairs_without R back p parts t.others t.one h in
      ((all_without (R p) q t.others rest t.other one.0).0, (pairs_without R back q t.others rest t.other one.1).1)

  numbers_back : (p q : Part S I) → p.number ≢ q.number → q.number ≢ p.number
  numbers_back p q d e = d (sym e)

  -- what joining asks of two parts, and the parts that are left
  pub record AreTwo {K : Type 0} (slot : I → ℕ) (key : I → K) (is_before : S → ℕ → Type 0) (is_beside : S → S → Type 0) (p q : Part S I) (rest : List (Part S I)) : Type 0 where
    pub numbers : p.number ≢ q.number
    pub beside : is_beside p.start q.start
    pub keys : KeysDiffer key p.items q.items
    pub before : AreBeforeBoth slot is_before p q
    pub left : AreParts slot key is_before is_beside rest

  pub two_taken : {K : Type 0} (slot : I → ℕ) (key : I → K) (is_before : S → ℕ → Type 0) (is_beside : S → S → Type 0) → ((s t : S) → is_beside s t → is_beside t s)
      → (p q : Part S I) (parts rest : List (Part S I)) → AreTaken p q parts rest → AreParts slot key is_before is_beside parts → AreTwo slot key is_before is_beside p q rest
  two_taken slot key is_before is_beside back p q parts rest t a =
      let n = of_two (λ p q. p.number ≢ q.number) numbers_back p q parts rest t a.numbers in
      let b = of_two (λ p q. is_beside p.start q.start) (λ p q h. back p.start q.start h) p q parts rest t a.beside in
      let k = of_two (λ p q. KeysDiffer key p.items q.items) (λ p q d x y c e f. d y x e c (sym f)) p q parts rest t a.keys in
      let m = of_two (AreBeforeBoth slot is_before) (λ p q h. record { there = h.back; back = h.there }) p q parts rest t a.before in
      record {
        numbers = n.0;
        beside = b.0;
        keys = k.0;
        before = m.0;
        left = record { numbers = n.1; beside = b.1; keys = k.1; before = m.1 };
      }

  -- the joined part still has a number of its own
  lower_differs : (a b : ℕ) (parts : List (Part S I)) → AllByRecursion (λ r. a ≢ r.number) parts → AllByRecursion (λ r. b ≢ r.number) parts → AllByRecursion (λ r. min a b ≢ r.number) parts
  lower_differs a b [] h k = tt
  lower_differs a b (r ∷ parts) h k = (
    elim (cases_lt a b) [
      | inl lt ↦ λ e. h.0 (omega (arith, lt, e))
      | inr le ↦ λ e. k.0 (omega (arith, le, e))
    ],
    lower_differs a b parts h.1 k.1,
  )

  pub joined_differ : (merged : S → S → S) (p q : Part S I) (parts rest : List (Part S I)) (items : List I) → AreTaken p q parts rest → NumbersDiffer parts → NumbersDiffer (joined merged p q items ∷ rest)
  joined_differ merged p q parts rest items t d =
      let one = pairs_without (λ p q. p.number ≢ q.number) numbers_back p parts t.others t.one d in
      let two = pairs_without (λ p q. p.number ≢ q.number) numbers_back q t.others rest t.other one.1 in
      (lower_differs p.number q.number rest (all_without (λ r. p.number ≢ r.number) q t.others rest t.other one.0).1 two.0, two.1)

  -- a part that is taken out had a number of the parts, ..
  own_number : (p : Part S I) (parts rest : List (Part S I)) → Without p parts rest → Contains (part_numbers parts) p.number
  own_number p [] rest w = absurd w
  own_number p (q ∷ parts) rest (inl (e, f)) = contains_first q.number p.number (part_numbers parts) (ap (λ (r : Part S I). r.number) (sym e))
  own_number p (q ∷ parts) rest (inr (others, f, v)) = contains_later q.number p.number (part_numbers parts) (own_number p parts others v)

  -- .. and those that are left have numbers of them
  number_without : (p : Part S I) (parts rest : List (Part S I)) → Without p parts rest → (k : ℕ) → Contains (part_numbers rest) k → Contains (part_numbers parts) k
  number_without p [] rest w k c = absurd w
  number_without p (q ∷ parts) rest (inl (e, f)) k c = contains_later q.number k (part_numbers parts) (subst (λ (l : List (Part S I)). Contains (part_numbers l) k) f c)
  number_without p (q ∷ parts) rest (inr (others, f, v)) k c = elim (contains_cons q.number k (part_numbers others) (subst (λ (l : List (Part S I)). Contains (part_numbers l) k) f c)) [
    | inl e ↦ contains_first q.number k (part_numbers parts) e
    | inr d ↦ contains_later q.number k (part_numbers parts) (number_without p parts others v k d)
  ]

  -- no number comes in by a join
  pub joined_among : (merged : S → S → S) (p q : Part S I) (parts rest : List (Part S I)) (items : List I) → AreTaken p q parts rest → (k : ℕ) → Contains (part_numbers (joined merged p q items ∷ rest)) k → Contains (part_numbers parts) k
  joined_among merged p q parts rest items t k c = elim (contains_cons (min p.number q.number) k (part_numbers rest) c) [
    | inl e ↦ elim (cases_lt p.number q.number) [
      | inl lt ↦ (let low : p.number ≡ k = omega (arith, lt, e) in subst (Contains (part_numbers parts)) low (own_number p parts t.others t.one))
      | inr le ↦ (let low : q.number ≡ k = omega (arith, le, e) in subst (Contains (part_numbers parts)) low (number_without p parts t.others t.one q.number (own_number q t.others rest t.other)))
    ]
    | inr d ↦ number_without p parts t.others t.one k (number_without q t.others rest t.other k d)
  ]

  -- a number that no part has
  pub no_number : (a : ℕ) (parts : List (Part S I)) → LackNumber a parts → Contains (part_numbers parts) a → ⊥
  no_number a [] h c = absurd (omega (arith, c.1))
  no_number a (p ∷ parts) h c = elim (contains_cons p.number a (part_numbers parts) c) [ inl e ↦ h.0 e | inr d ↦ no_number a parts h.1 d ]

  -- the numbers of two that cross are those of two parts
  cross_with : (next : S → ℕ → List I → S) (slot : I → ℕ) (gates : S → ℕ → List I → I → Type 0) (p : Part S I) (parts : List (Part S I)) (a b : ℕ) → AllByRecursion (λ q. p.number ≢ q.number) parts → CrossWith next slot gates p parts a b → AreNumbers a b (p ∷ parts)
  cross_with next slot gates p [] a b d h = absurd h
  cross_with next slot gates p (q ∷ parts) a b d (inl (e, f, c)) =
      let own : Contains (part_numbers (p ∷ q ∷ parts)) p.number = contains_first p.number p.number (part_numbers (q ∷ parts)) refl in
      let other : Contains (part_numbers (p ∷ q ∷ parts)) q.number = contains_later p.number q.number (part_numbers (q ∷ parts)) (contains_first q.number q.number (part_numbers parts) refl) in
      elim (cases_lt p.number q.number) [
        | inl lt ↦
            let low : p.number ≡ a = omega (arith, lt, e) in
            let high : q.number ≡ b = omega (arith, lt, f) in
            record { differ = λ g. omega (arith, lt, low, high, g); one = subst (Contains (part_numbers (p ∷ q ∷ parts))) low own; other = subst (Contains (part_numbers (p ∷ q ∷ parts))) high other }
        | inr le ↦
            let low : q.number ≡ a = omega (arith, le, e) in
            let high : p.number ≡ b = omega (arith, le, f) in
            record { differ = λ g. d.0 (omega (arith, low, high, g)); one = subst (Contains (part_numbers (p ∷ q ∷ parts))) low other; other = subst (Contains (part_numbers (p ∷ q ∷ parts))) high own }
      ]
  cross_with next slot gates p (q ∷ parts) a b d (inr h) =
      let r : AreNumbers a b (p ∷ parts) = cross_with next slot gates p parts a b d.1 h in
      record { differ = r.differ; one = one_more a r.one; other = one_more b r.other }
    where
      one_more : (c : ℕ) → Contains (part_numbers (p ∷ parts)) c → Contains (part_numbers (p ∷ q ∷ parts)) c
      one_more c h = elim (contains_cons p.number c (part_numbers parts) h) [ inl e ↦ contains_first p.number c (part_numbers (q ∷ parts)) e | inr k ↦ contains_later p.number c (part_numbers (q ∷ parts)) (contains_later q.number c (part_numbers parts) k) ]

  pub cross_numbers : (next : S → ℕ → List I → S) (slot : I → ℕ) (gates : S → ℕ → List I → I → Type 0) (parts : List (Part S I)) (a b : ℕ) → NumbersDiffer parts → CrossAs next slot gates parts a b → AreNumbers a b parts
  cross_numbers next slot gates [] a b d h = absurd h
  cross_numbers next slot gates (p ∷ parts) a b d (inl h) = cross_with next slot gates p parts a b d.0 h
  cross_numbers next slot gates (p ∷ parts) a b d (inr h) =
      let r : AreNumbers a b parts = cross_numbers next slot gates parts a b d.1 h in
      record { differ = r.differ; one = contains_later p.number a (part_numbers parts) r.one; other = contains_later p.number b (part_numbers parts) r.other }

  -- where no pair is told, no two cross
  none_with : (next : S → ℕ → List I → S) (slot : I → ℕ) (gates : S → ℕ → List I → I → Type 0) (p : Part S I) (parts : List (Part S I)) → ((a b : ℕ) → CrossWith next slot gates p parts a b → ⊥) → AllByRecursion (λ q. Cross next slot gates p q → ⊥) parts
  none_with next slot gates p [] f = tt
  none_with next slot gates p (q ∷ parts) f = (λ c. f (min p.number q.number) (max p.number q.number) (inl (refl, refl, c)), none_with next slot gates p parts (λ a b h. f a b (inr h)))

  pub none_cross : (next : S → ℕ → List I → S) (slot : I → ℕ) (gates : S → ℕ → List I → I → Type 0) (parts : List (Part S I)) → ((a b : ℕ) → CrossAs next slot gates parts a b → ⊥) → EachPair (λ p q. Cross next slot gates p q → ⊥) parts
  none_cross next slot gates [] f = tt
  none_cross next slot gates (p ∷ parts) f = (none_with next slot gates p parts (λ a b h. f a b (inl h)), none_cross next slot gates parts (λ a b h. f a b (inr h)))

  same_place : (parts : List (Part S I)) (i j a b : ℕ) (p : Part S I) → a ≢ b → ((d : Part S I) → (get_or parts i d).number ≡ a) → ((d : Part S I) → (get_or parts j d).number ≡ b) → i ≢ j
  same_place parts i j a b p n h k e = n (sym (h p) ∙ ap (λ m. (get_or parts m p).number) e ∙ k p)

  -- the parts at two places, the later one first
  pub both_taken : (parts : List (Part S I)) (i j : ℕ) (p q : Part S I) → j < i → i < length parts → p ≡ get_or parts i p → q ≡ get_or (take i parts ++ drop (suc i) parts) j q
      → AreTaken p q parts (take j (take i parts ++ drop (suc i) parts) ++ drop (suc j) (take i parts ++ drop (suc i) parts))
  both_taken parts i j p q l m e f =
      let mid = take i parts ++ drop (suc i) parts in
      let w : Without p parts mid = without_at parts i p m e in
      let len = without_length p parts mid w in
      record { others = mid; one = w; other = without_at mid j q (omega (arith, l, m, len)) f }

  pub two_places : (parts : List (Part S I)) (i j a b : ℕ) → a ≢ b → i < length parts → j < length parts → ((d : Part S I) → (get_or parts i d).number ≡ a) → ((d : Part S I) → (get_or parts j d).number ≡ b) → i ≢ j
  two_places [] i j a b n l m h k = absurd (omega (arith, l))
  two_places (p ∷ parts) i j a b n l m h k = same_place (p ∷ parts) i j a b p n h k

  earlier_stays : (parts : List (Part S I)) (high low : ℕ) (d : Part S I) → low < high → high < length parts → get_or (take high parts ++ drop (suc high) parts) low d ≡ get_or parts low d
  earlier_stays [] high low d l m = absurd (omega (arith, m))
  earlier_stays (p ∷ parts) zero low d l m = absurd (omega (arith, l))
  earlier_stays (p ∷ parts) (suc high) zero d l m = refl
  earlier_stays (p ∷ parts) (suc high) (suc low) d l m = earlier_stays parts high low d (omega (arith, l)) (omega (arith, m))

  number_at : (parts : List (Part S I)) (place i a : ℕ) (p : Part S I) → place ≡ i → p ≡ get_or parts place p → ((d : Part S I) → (get_or parts i d).number ≡ a) → p.number ≡ a
  number_at parts place i a p s e h = ap (λ (r : Part S I). r.number) e ∙ ap (λ k. (get_or parts k p).number) s ∙ h p

  places_numbers : (parts : List (Part S I)) (i j high low a b : ℕ) (p q : Part S I) → ((d : Part S I) → (get_or parts i d).number ≡ a) → ((d : Part S I) → (get_or parts j d).number ≡ b)
      → high ≡ max i j → low ≡ min i j → p ≡ get_or parts high p → q ≡ get_or parts low q → HaveNumbers a b p q
  places_numbers parts i j high low a b p q one other h l e f = elim (cases_lt i j) [
    | inl lt ↦ inr (number_at parts high j b p (omega (arith, lt, h)) e other, number_at parts low i a q (omega (arith, lt, l)) f one)
    | inr le ↦ inl (number_at parts high i a p (omega (arith, le, h)) e one, number_at parts low j b q (omega (arith, le, l)) f other)
  ]

  pub places_taken : (parts mid rest : List (Part S I)) (i j high low a b : ℕ) (p q : Part S I) → a ≢ b
      → (i < length parts) × ((d : Part S I) → (get_or parts i d).number ≡ a) → (j < length parts) × ((d : Part S I) → (get_or parts j d).number ≡ b)
      → high ≡ max i j → low ≡ min i j → p ≡ get_or parts high p → mid ≡ take high parts ++ drop (suc high) parts → q ≡ get_or mid low q → rest ≡ take low mid ++ drop (suc low) mid → AreTaken p q parts rest × HaveNumbers a b p q
  places_taken parts mid rest i j high low a b p q n one other h l e f g k =
      let apart : i ≢ j = two_places parts i j a b n one.0 other.0 one.1 other.1 in
      let below : low < high = elim (cases_lt i j) [ inl lt ↦ omega (arith, lt, h, l) | inr le ↦ elim (cases_lt j i) [ inl lt ↦ omega (arith, lt, h, l) | inr ge ↦ absurd (apart (omega (arith, le, ge))) ] ] in
      let inside : high < length parts = let x = one.0 in let y = other.0 in omega (arith, h, x, y) in
      let q' : q ≡ get_or (take high parts ++ drop (suc high) parts) low q = g ∙ ap (λ (m : List (Part S I)). get_or m low q) f in
      let r' : rest ≡ take low (take high parts ++ drop (suc high) parts) ++ drop (suc low) (take high parts ++ drop (suc high) parts) = k ∙ ap (λ (m : List (Part S I)). take low m ++ drop (suc low) m) f in
      let q'' : q ≡ get_or parts low q = q' ∙ earlier_stays parts high low q below inside in (
        subst (AreTaken p q parts) (sym r') (both_taken parts high low p q below inside e q'),
        places_numbers parts i j high low a b p q one.1 other.1 h l e q'',
      )
