-- A list has one order in rising number in which those of one number stay as they were.
use Rattle.std.proofs.Common.{◌≡◌, ◌∙◌, ap, sym, refl, ℕ, zero, suc, ◌<◌, ◌≤◌, Bool, true, false, cond, List, [], ◌∷◌, length, get_or, map, arith, eqb, nat_lt, inl, inr}
use Rattle.std.specs.Prelude.{filter, not, ◌&&◌}
use Rattle.std.specs.Ordering.{is_lt, nat_cmp}
use Rattle.std.specs.declared.cmp.Ordering.TheVariants.{Less, Equal, Greater}
use Rattle.std.specs.List.{AllByRecursion}
use Rattle.std.specs.List.Sorted.{IsNonDecreasingBy, IsStableByKey, IsPermutation, ties}
use Rattle.std.proofs.lemmas.List.Elements.{recursion_from_All}
use Rattle.std.proofs.lemmas.List.Sorted.{IsPermutation-refl, IsPermutation-cons, IsPermutation-trans, IsPermutation-sym, IsPermutation-middle}
use Rattle.std.proofs.lemmas.Bool.{cond_both, cases_order, lt-ltb, le-ltb, ltb-true, ltb-false, eq-eqb, ne_eqb}
use Rattle.late_window.proofs.Lists.{all_weaker, filter_same, filter_none}
use Rattle.edition_form.specs.Numbered.{put, in_rising_number}
use Rattle.edition_form.proofs.Rising.{all_put}

-- neither is less than the other exactly where they are equal
less_is : (b e : Bool) → is_lt (cond b Less (cond e Equal Greater)) ≡ b
less_is true e = refl
less_is false true = refl
less_is false false = refl

neither : (m n : ℕ) → (not (is_lt (nat_cmp m n)) && not (is_lt (nat_cmp n m))) ≡ eqb m n
neither m n =
    rw (less_is (nat_lt m n) (eqb m n), less_is (nat_lt n m) (eqb n m))
    (elim (cases_order m n) [
      | inl e ↦ rw (le-ltb m n (omega (arith, e)), le-ltb n m (omega (arith, e)), eq-eqb m n e) refl
      | inr (inl lt) ↦ rw (lt-ltb m n lt, ne_eqb m n (λ e. omega (arith, lt, e))) refl
      | inr (inr gt) ↦ rw (lt-ltb n m gt, le-ltb m n (omega (arith, gt)), ne_eqb m n (λ e. omega (arith, gt, e))) refl
    ])

pub all_at : {X : Type 0} (P : X → Type 0) (xs : List X) (i : ℕ) (d : X) → AllByRecursion P xs → i < length xs → P (get_or xs i d)
all_at P [] i d h inside = absurd (omega (arith, inside))
all_at P (x ∷ xs) zero d h inside = h.0
all_at P (x ∷ xs) (suc i) d h inside = all_at P xs i d h.1 (omega (arith, inside))

module _ {X : Type 0} (number : X → ℕ) where
  abbrev pub Rises : List X → Type 0
  Rises [] = Unit {0}
  Rises (x ∷ xs) = AllByRecursion (λ y. number x ≤ number y) xs × Rises xs

  -- the elements of one number
  abbrev pub of_number : ℕ → List X → List X
  of_number n xs = filter (λ x. eqb n (number x)) xs

  abbrev pub AreAlike : List X → List X → Type 0
  AreAlike xs ys = (x : X) → of_number (number x) xs ≡ of_number (number x) ys

  -- ---- putting in order

  put_rises : (x : X) (ys : List X) → Rises ys → Rises (put number x ys)
  put_rises x [] h = (tt, tt)
  put_rises x (y ∷ ys) h =
      cond_both (nat_lt (number y) (number x)) (y ∷ put number x ys) (x ∷ y ∷ ys) Rises
      (λ e. let lt = ltb-true (number y) (number x) e in (all_put number (λ z. number y ≤ number z) x ys (omega (arith, lt)) h.0, put_rises x ys h.1))
      (λ e. let le = ltb-false (number y) (number x) e in ((le, all_weaker (λ z. number y ≤ number z) (λ z. number x ≤ number z) (λ z k. omega (arith, le, k)) ys h.0), h))

  pub all_rise : (xs : List X) → Rises (in_rising_number number xs)
  all_rise [] = tt
  all_rise (x ∷ xs) = put_rises x (in_rising_number number xs) (all_rise xs)

  put_moves : (x : X) (ys : List X) → IsPermutation (x ∷ ys) (put number x ys)
  put_moves x [] = IsPermutation-refl (x ∷ [])
  put_moves x (y ∷ ys) =
      cond_both (nat_lt (number y) (number x)) (y ∷ put number x ys) (x ∷ y ∷ ys) (IsPermutation (x ∷ y ∷ ys))
      (λ e. IsPermutation-trans (x ∷ y ∷ ys) (y ∷ x ∷ ys) (y ∷ put number x ys) (IsPermutation-sym (y ∷ x ∷ ys) (x ∷ y ∷ ys) (IsPermutation-middle (y ∷ []) x ys)) (IsPermutation-cons y (x ∷ ys) (put number x ys) (put_moves x ys)))
      (λ e. IsPermutation-refl (x ∷ y ∷ ys))

  pub all_move : (xs : List X) → IsPermutation xs (in_rising_number number xs)
  all_move [] = IsPermutation-refl []
  all_move (x ∷ xs) = IsPermutation-trans (x ∷ xs) (x ∷ in_rising_number number xs) (put number x (in_rising_number number xs)) (IsPermutation-cons x xs (in_rising_number number xs) (all_move xs)) (put_moves x (in_rising_number number xs))

  swapped : (n : ℕ) (x y : X) (zs : List X) → number y < number x → of_number n (y ∷ x ∷ zs) ≡ of_number n (x ∷ y ∷ zs)
  swapped n x y zs lt =
      elim (cases_order n (number y)) [
        | inl e ↦ rw (eq-eqb n (number y) e, ne_eqb n (number x) (λ f. omega (arith, e, f, lt))) refl
        | inr (inl a) ↦ rw (ne_eqb n (number y) (λ e. omega (arith, a, e))) refl
        | inr (inr a) ↦ rw (ne_eqb n (number y) (λ e. omega (arith, a, e))) refl
      ]

  put_stays : (n : ℕ) (x : X) (ys : List X) → of_number n (put number x ys) ≡ of_number n (x ∷ ys)
  put_stays n x [] = refl
  put_stays n x (y ∷ ys) =
      cond_both (nat_lt (number y) (number x)) (y ∷ put number x ys) (x ∷ y ∷ ys) (λ zs. of_number n zs ≡ of_number n (x ∷ y ∷ ys))
      (λ e. ap (λ zs. cond (eqb n (number y)) (y ∷ zs) zs) (put_stays n x ys) ∙ swapped n x y ys (ltb-true (number y) (number x) e))
      (λ e. refl)

  pub all_stay : (n : ℕ) (xs : List X) → of_number n (in_rising_number number xs) ≡ of_number n xs
  all_stay n [] = refl
  all_stay n (x ∷ xs) = put_stays n x (in_rising_number number xs) ∙ ap (λ zs. cond (eqb n (number x)) (x ∷ zs) zs) (all_stay n xs)

  -- ---- one order

  own : (x : X) (xs : List X) → of_number (number x) (x ∷ xs) ≡ x ∷ of_number (number x) xs
  own x xs = rw (eq-eqb (number x) (number x) refl) refl

  none_below : (n : ℕ) (xs : List X) → AllByRecursion (λ x. n < number x) xs → of_number n xs ≡ []
  none_below n xs h = filter_none (λ x. eqb n (number x)) xs (all_weaker (λ x. n < number x) (λ x. eqb n (number x) ≡ false) (λ x lt. ne_eqb n (number x) (λ e. omega (arith, lt, e))) xs h)

  not_lower : (x y : X) (xs ys : List X) → AllByRecursion (λ z. number y ≤ number z) ys → AreAlike (x ∷ xs) (y ∷ ys) → number y ≤ number x
  not_lower x y xs ys h alike =
      elim (cases_order (number y) (number x)) [
        | inl e ↦ omega (arith, e)
        | inr (inl lt) ↦ omega (arith, lt)
        | inr (inr gt) ↦
            let none : of_number (number x) (y ∷ ys) ≡ [] = none_below (number x) (y ∷ ys) (gt, all_weaker (λ z. number y ≤ number z) (λ z. number x < number z) (λ z k. omega (arith, gt, k)) ys h) in
            let empty : x ∷ of_number (number x) xs ≡ [] = sym (own x xs) ∙ alike x ∙ none in
            absurd (cc)
      ]

  rest_alike : (b : Bool) (x : X) (xs ys : List X) → cond b (x ∷ xs) xs ≡ cond b (x ∷ ys) ys → xs ≡ ys
  rest_alike true x xs ys e = cc
  rest_alike false x xs ys e = e

  first_same : (x y : X) (xs ys : List X) → x ∷ xs ≡ y ∷ ys → x ≡ y
  first_same x y xs ys e = cc

  pub one_order : (xs ys : List X) → Rises xs → Rises ys → AreAlike xs ys → xs ≡ ys
  one_order [] [] h k alike = refl
  one_order [] (y ∷ ys) h k alike = let e : [] ≡ y ∷ of_number (number y) ys = alike y ∙ own y ys in absurd (cc)
  one_order (x ∷ xs) [] h k alike = let e : x ∷ of_number (number x) xs ≡ [] = sym (own x xs) ∙ alike x in absurd (cc)
  one_order (x ∷ xs) (y ∷ ys) h k alike =
      let a = not_lower x y xs ys k.0 alike in
      let b = not_lower y x ys xs h.0 (λ z. sym (alike z)) in
      let e : number x ≡ number y = omega (arith, a, b) in
      let there : of_number (number x) (y ∷ ys) ≡ y ∷ of_number (number x) ys = rw (eq-eqb (number x) (number y) e) refl in
      let first : x ≡ y = first_same x y (of_number (number x) xs) (of_number (number x) ys) (sym (own x xs) ∙ alike x ∙ there) in
      let alike_rest : AreAlike xs ys = λ z. rest_alike (eqb (number z) (number x)) x (of_number (number z) xs) (of_number (number z) ys) (alike z ∙ ap (λ w. of_number (number z) (w ∷ ys)) (sym first)) in
      let others = one_order xs ys h.1 k.1 alike_rest in
      λ i. first i ∷ others i

  -- ---- std's words

  pub from_sorted : (xs : List X) → IsNonDecreasingBy number xs → Rises xs
  from_sorted [] h = tt
  from_sorted (x ∷ xs) h =
      (recursion_from_All (λ y. number x ≤ number y) xs (λ k d within. h 0 (suc k) d (omega arith) (omega (arith, within))), from_sorted xs (λ i j d le within. h (suc i) (suc j) d (omega (arith, le)) (omega (arith, within))))

  tests_alike : (x : X) (zs : List X) → AllByRecursion (λ z. ties (λ a b. is_lt (nat_cmp (number a) (number b))) x z ≡ eqb (number x) (number z)) zs
  tests_alike x [] = tt
  tests_alike x (z ∷ zs) = (neither (number x) (number z), tests_alike x zs)

  same_test : (x : X) (zs : List X) → filter (ties (λ a b. is_lt (nat_cmp (number a) (number b))) x) zs ≡ of_number (number x) zs
  same_test x zs = filter_same (ties (λ a b. is_lt (nat_cmp (number a) (number b))) x) (λ z. eqb (number x) (number z)) zs (tests_alike x zs)

  from_stable : (xs ys : List X) → IsStableByKey number nat_cmp xs ys → AreAlike ys xs
  from_stable xs ys h = λ x. sym (same_test x ys) ∙ h x ∙ same_test x xs

  -- what a stable sort by the number makes of a list
  pub sorted_is : (xs ys : List X) → IsNonDecreasingBy number ys → IsStableByKey number nat_cmp xs ys → ys ≡ in_rising_number number xs
  sorted_is xs ys up stable = one_order ys (in_rising_number number xs) (from_sorted ys up) (all_rise xs) (λ x. from_stable xs ys stable x ∙ sym (all_stay (number x) xs))

  -- a list that rises doesn't fall between any two indices
  up_from : (xs : List X) → Rises xs → (i j : ℕ) (d : X) → i ≤ j → j < length xs → number (get_or xs i d) ≤ number (get_or xs j d)
  up_from [] h i j d le within = absurd (omega (arith, within))
  up_from (x ∷ xs) h zero zero d le within = omega arith
  up_from (x ∷ xs) h zero (suc j) d le within = all_at (λ y. number x ≤ number y) xs j d h.0 (omega (arith, within))
  up_from (x ∷ xs) h (suc i) zero d le within = absurd (omega (arith, le))
  up_from (x ∷ xs) h (suc i) (suc j) d le within = up_from xs h.1 i j d (omega (arith, le)) (omega (arith, within))

  pub rising_up : (xs : List X) → IsNonDecreasingBy number (in_rising_number number xs)
  rising_up xs = λ i j d le within. up_from (in_rising_number number xs) (all_rise xs) i j d le within

  pub rising_stays : (xs : List X) → IsStableByKey number nat_cmp xs (in_rising_number number xs)
  rising_stays xs = λ x. same_test x (in_rising_number number xs) ∙ all_stay (number x) xs ∙ sym (same_test x xs)

-- what keeps the number keeps the order
module _ {X Y : Type 0} (number : X → ℕ) (same : Y → ℕ) (f : X → Y) (keeps : (x : X) → same (f x) ≡ number x) where
  map_put : (x : X) (ys : List X) → map f (put number x ys) ≡ put same (f x) (map f ys)
  map_put x [] = refl
  map_put x (y ∷ ys) =
      rw (keeps x, keeps y)
      (cond_both (nat_lt (number y) (number x)) (y ∷ put number x ys) (x ∷ y ∷ ys) (λ zs. map f zs ≡ cond (nat_lt (number y) (number x)) (f y ∷ put same (f x) (map f ys)) (f x ∷ f y ∷ map f ys))
      (λ e. rw e (ap (λ zs. f y ∷ zs) (map_put x ys)))
      (λ e. rw e refl))

  pub map_rising : (xs : List X) → map f (in_rising_number number xs) ≡ in_rising_number same (map f xs)
  map_rising [] = refl
  map_rising (x ∷ xs) = map_put x (in_rising_number number xs) ∙ ap (put same (f x)) (map_rising xs)
