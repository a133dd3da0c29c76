-- Lists of which each element passes a test, or none, and lists that are two in one.
use Rattle.std.proofs.Common.{◌≡◌, ap, refl, ℕ, zero, suc, ◌≤◌, ◌<◌, List, [], ◌∷◌, ◌++◌, Bool, true, false, length, take, drop, map, get_or, arith, cond}
use Rattle.std.specs.Prelude.{filter}
use Rattle.std.specs.List.{AllByRecursion, AllWithin}
use Rattle.std.proofs.lemmas.Bool.{cond_both, both_ways}

module _ {X : Type 0} where
  pub all_weaker : (P Q : X → Type 0) → ((x : X) → P x → Q x) → (xs : List X) → AllByRecursion P xs → AllByRecursion Q xs
  all_weaker P Q f [] h = tt
  all_weaker P Q f (x ∷ xs) h = (f x h.0, all_weaker P Q f xs h.1)

  pub all_append : (P : X → Type 0) (xs ys : List X) → AllByRecursion P xs → AllByRecursion P ys → AllByRecursion P (xs ++ ys)
  all_append P [] ys h k = k
  all_append P (x ∷ xs) ys h k = (h.0, all_append P xs ys h.1 k)

  pub all_left : (P : X → Type 0) (xs ys : List X) → AllByRecursion P (xs ++ ys) → AllByRecursion P xs
  all_left P [] ys h = tt
  all_left P (x ∷ xs) ys h = (h.0, all_left P xs ys h.1)

  pub all_right : (P : X → Type 0) (xs ys : List X) → AllByRecursion P (xs ++ ys) → AllByRecursion P ys
  all_right P [] ys h = h
  all_right P (x ∷ xs) ys h = all_right P xs ys h.1

  pub all_both : (P Q : X → Type 0) (xs : List X) → AllByRecursion P xs → AllByRecursion Q xs → AllByRecursion (λ x. P x × Q x) xs
  all_both P Q [] h k = tt
  all_both P Q (x ∷ xs) h k = ((h.0, k.0), all_both P Q xs h.1 k.1)

  pub filter_all : (p : X → Bool) (xs : List X) → AllByRecursion (λ x. p x ≡ true) xs → filter p xs ≡ xs
  filter_all p [] h = refl
  filter_all p (x ∷ xs) h = cond_both (p x) (x ∷ filter p xs) (filter p xs) (λ l. l ≡ x ∷ xs) (λ t. ap (λ (l : List X). x ∷ l) (filter_all p xs h.1)) (λ f. absurd (both_ways (p x) f h.0))

  pub filter_none : (p : X → Bool) (xs : List X) → AllByRecursion (λ x. p x ≡ false) xs → filter p xs ≡ []
  filter_none p [] h = refl
  filter_none p (x ∷ xs) h = cond_both (p x) (x ∷ filter p xs) (filter p xs) (λ l. l ≡ []) (λ t. absurd (both_ways (p x) h.0 t)) (λ f. filter_none p xs h.1)

  pub filter_same : (p q : X → Bool) (xs : List X) → AllByRecursion (λ x. p x ≡ q x) xs → filter p xs ≡ filter q xs
  filter_same p q [] h = refl
  filter_same p q (x ∷ xs) h = λ i. cond (h.0 i) (x ∷ filter_same p q xs h.1 i) (filter_same p q xs h.1 i)

  pub filter_keeps : (P : X → Type 0) (p : X → Bool) (xs : List X) → AllByRecursion P xs → AllByRecursion P (filter p xs)
  filter_keeps P p [] h = tt
  filter_keeps P p (x ∷ xs) h = cond_both (p x) (x ∷ filter p xs) (filter p xs) (AllByRecursion P) (λ t. (h.0, filter_keeps P p xs h.1)) (λ f. filter_keeps P p xs h.1)

  pub filter_passing : (p : X → Bool) (xs : List X) → AllByRecursion (λ x. p x ≡ true) (filter p xs)
  filter_passing p [] = tt
  filter_passing p (x ∷ xs) = cond_both (p x) (x ∷ filter p xs) (filter p xs) (AllByRecursion (λ x. p x ≡ true)) (λ t. (t, filter_passing p xs)) (λ f. filter_passing p xs)

  pub filter_append : (p : X → Bool) (xs ys : List X) → filter p (xs ++ ys) ≡ filter p xs ++ filter p ys
  filter_append p [] ys = refl
  filter_append p (x ∷ xs) ys = cond_both (p x) (x ∷ filter p xs) (filter p xs) (λ l. cond (p x) (x ∷ filter p (xs ++ ys)) (filter p (xs ++ ys)) ≡ l ++ filter p ys)
      (λ t. cond_both (p x) (x ∷ filter p (xs ++ ys)) (filter p (xs ++ ys)) (λ l. l ≡ x ∷ (filter p xs ++ filter p ys)) (λ k. ap (λ (l : List X). x ∷ l) (filter_append p xs ys)) (λ k. absurd (both_ways (p x) k t)))
      (λ f. cond_both (p x) (x ∷ filter p (xs ++ ys)) (filter p (xs ++ ys)) (λ l. l ≡ filter p xs ++ filter p ys) (λ k. absurd (both_ways (p x) f k)) (λ k. filter_append p xs ys))

  pub take_left : (xs ys : List X) → take (length xs) (xs ++ ys) ≡ xs
  take_left [] ys = refl
  take_left (x ∷ xs) ys = ap (λ (l : List X). x ∷ l) (take_left xs ys)

  pub drop_left : (xs ys : List X) → drop (length xs) (xs ++ ys) ≡ ys
  drop_left [] ys = refl
  drop_left (x ∷ xs) ys = drop_left xs ys

  pub map_take : {Y : Type 0} (f : X → Y) (k : ℕ) (xs : List X) → map f (take k xs) ≡ take k (map f xs)
  map_take f zero xs = refl
  map_take f (suc k) [] = refl
  map_take f (suc k) (x ∷ xs) = ap (λ l. f x ∷ l) (map_take f k xs)

  pub map_drop : {Y : Type 0} (f : X → Y) (k : ℕ) (xs : List X) → map f (drop k xs) ≡ drop k (map f xs)
  map_drop f zero xs = refl
  map_drop f (suc k) [] = refl
  map_drop f (suc k) (x ∷ xs) = map_drop f k xs

  -- where numbers fall into those below n and the others, the first of the others stands after all of the former
  pub point_is : (f : X → ℕ) (n k : ℕ) (os : List X) (ns ms : List ℕ) → map f os ≡ ns ++ ms → AllByRecursion (λ m. m < n) ns → AllByRecursion (λ m. n ≤ m) ms
      → k ≤ length os → AllWithin (λ o. f o < n) os 0 k → AllWithin (λ o. n ≤ f o) os k (length os) → k ≡ length ns
  point_is f n k [] [] ms e a b le h g = omega (arith, le)
  point_is f n k [] (m ∷ ns) ms e a b le h g = cc
  point_is f n k (o ∷ os) [] [] e a b le h g = cc
  point_is f n zero (o ∷ os) [] (m ∷ ms) e a b le h g = refl
  point_is f n (suc k) (o ∷ os) [] (m ∷ ms) e a b le h g =
      let same : f o ≡ m = ap (λ l. get_or l 0 0) e in
      let lt : f o < n = h 0 o (omega arith) (omega arith) in
      absurd (omega (arith, same, lt, b.0))
  point_is f n zero (o ∷ os) (m ∷ ns) ms e a b le h g =
      let same : f o ≡ m = ap (λ l. get_or l 0 0) e in
      let ge : n ≤ f o = g 0 o (omega arith) (omega arith) in
      absurd (omega (arith, same, ge, a.0))
  point_is f n (suc k) (o ∷ os) (m ∷ ns) ms e a b le h g =
      ap suc (point_is f n k os ns ms (ap (drop 1) e) a.1 b (omega (arith, le)) (λ j d l r. h (suc j) d (omega arith) (omega (arith, r))) (λ j d l r. g (suc j) d (omega (arith, l)) (omega (arith, r))))

  -- the elements that pass, where a binary search found the first that doesn't
  pub passing_first : (p : X → Bool) (k : ℕ) (xs : List X) → k ≤ length xs → AllWithin (λ x. p x ≡ true) xs 0 k → AllWithin (λ x. p x ≡ false) xs k (length xs) → (AllByRecursion (λ x. p x ≡ true) (take k xs)) × (AllByRecursion (λ x. p x ≡ false) (drop k xs))
  passing_first p zero [] le h g = (tt, tt)
  passing_first p (suc k) [] le h g = (tt, tt)
  passing_first p zero (x ∷ xs) le h g = (tt, (g 0 x (omega arith) (omega arith), (passing_first p zero xs (omega arith) (λ j d l r. absurd (omega arith)) (λ j d l r. g (suc j) d (omega arith) (omega (arith, r)))).1))
  passing_first p (suc k) (x ∷ xs) le h g =
      let rest = passing_first p k xs (omega (arith, le)) (λ j d l r. h (suc j) d (omega arith) (omega (arith, r))) (λ j d l r. g (suc j) d (omega (arith, l)) (omega (arith, r))) in
      ((h 0 x (omega arith) (omega arith), rest.0), rest.1)
