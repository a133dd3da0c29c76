-- Lists that are filtered from a range, and lists that rise.
use Rattle.std.proofs.Common.{◌≡◌, ◌≢◌, ℕ, suc, zero, ◌+◌, ◌<◌, ◌≤◌, Bool, true, false, cond, List, [], ◌∷◌, ◌++◌, length, get_or, set, map, arith, refl, sym, ◌∙◌, ap, subst, inl, inr, append-nil}
use Rattle.std.proofs.lemmas.Bool.{cases_eq, cases_order, cases_Bool}
use Rattle.std.proofs.lemmas.List.{map-id}
use Rattle.std.proofs.lemmas.List.Elements.{All-contains, filter_passes, All-filter}
use Rattle.std.proofs.lemmas.List.FromFn.{length-range_with_len, get_or-range_with_len, map-range_with_len_more}
use Rattle.std.proofs.lemmas.List.Elements.{filter-append}
use Rattle.std.proofs.lemmas.List.Kept.{IsStrictlyIncreasing-filter}
use Rattle.std.specs.List.{Contains, All, filter, range_with_len}
use Rattle.std.specs.List.Sorted.{IsStrictlyIncreasing}

pub range_more : (n : ℕ) → range_with_len 0 (n + 1) ≡ range_with_len 0 n ++ n ∷ []
range_more n = sym (map-id _) ∙ map-range_with_len_more (λ k. k) 0 n n (omega arith) ∙ ap (λ xs. xs ++ n ∷ []) (map-id _)

pub filter_range_more : (p : ℕ → Bool) (n : ℕ) → filter p (range_with_len 0 (n + 1)) ≡ filter p (range_with_len 0 n) ++ cond (p n) (n ∷ []) []
filter_range_more p n = ap (filter p) (range_more n) ∙ filter-append p (range_with_len 0 n) (n ∷ [])

pub passes_more : (p : ℕ → Bool) (n : ℕ) → p n ≡ true → filter p (range_with_len 0 (n + 1)) ≡ filter p (range_with_len 0 n) ++ n ∷ []
passes_more p n e = filter_range_more p n ∙ ap (λ b. filter p (range_with_len 0 n) ++ cond b (n ∷ []) []) e

pub fails_more : (p : ℕ → Bool) (n : ℕ) → p n ≡ false → filter p (range_with_len 0 (n + 1)) ≡ filter p (range_with_len 0 n)
fails_more p n e = filter_range_more p n ∙ ap (λ b. filter p (range_with_len 0 n) ++ cond b (n ∷ []) []) e ∙ append-nil _

-- what a filter keeps of a list
pub kept_in : {X : Type 0} (p : X → Bool) (xs : List X) (x : X) → Contains xs x → p x ≡ true → Contains (filter p xs) x
kept_in p [] x h e = absurd (omega (arith, h.1))
kept_in {X} p (y ∷ xs) x (zero, lt, is) e = subst (λ b. Contains (cond b (y ∷ filter p xs) (filter p xs)) x) (sym (ap p is ∙ e)) (zero, omega arith, is)
kept_in {X} p (y ∷ xs) x (suc k, lt, is) e =
    let h = kept_in p xs x (k, omega (arith, lt), is) e in
    elim (cases_Bool (p y)) [
      | inl t ↦ subst (λ b. Contains (cond b (y ∷ filter p xs) (filter p xs)) x) (sym t) (suc h.0, omega (arith, h.1), h.2)
      | inr f ↦ subst (λ b. Contains (cond b (y ∷ filter p xs) (filter p xs)) x) (sym f) h
    ]

pub kept_passes : {X : Type 0} (p : X → Bool) (xs : List X) (x : X) → Contains (filter p xs) x → p x ≡ true
kept_passes p xs x h = All-contains (λ y. p y ≡ true) (filter p xs) x (filter_passes p xs) h

pub in_range : (n x : ℕ) → x < n → Contains (range_with_len 0 n) x
in_range n x lt = (x, omega (arith, lt, length-range_with_len 0 n), get_or-range_with_len 0 n x x lt ∙ omega arith)

pub below_range : (n : ℕ) → All (λ x. x < n) (range_with_len 0 n)
below_range n = λ k d lt. let h : k < n = omega (arith, lt, length-range_with_len 0 n) in omega (arith, get_or-range_with_len 0 n k d h, h)

pub range_rises : (n : ℕ) → IsStrictlyIncreasing (range_with_len 0 n)
range_rises n = λ k lt. let h : k + 1 < n = omega (arith, lt, length-range_with_len 0 n) in
    omega (arith, get_or-range_with_len 0 n k 0 (omega (arith, h)), get_or-range_with_len 0 n (k + 1) 0 h)

-- those of the first n numbers that pass
pub passing_rise : (p : ℕ → Bool) (n : ℕ) → IsStrictlyIncreasing (filter p (range_with_len 0 n))
passing_rise p n = IsStrictlyIncreasing-filter p _ (range_rises n)

pub passing : (p : ℕ → Bool) (n x : ℕ) → x < n → p x ≡ true → Contains (filter p (range_with_len 0 n)) x
passing p n x lt e = kept_in p _ x (in_range n x lt) e

pub passing_below : (p : ℕ → Bool) (n x : ℕ) → Contains (filter p (range_with_len 0 n)) x → x < n
passing_below p n x h = All-contains (λ y. y < n) _ x (All-filter p (λ y. y < n) _ (below_range n)) h

-- in a list that rises, later ones are greater
pub rises_far : (xs : List ℕ) → IsStrictlyIncreasing xs → (i j : ℕ) → i < j → j < length xs → get_or xs i 0 < get_or xs j 0
rises_far xs up i zero lt in' = absurd (omega (arith, lt))
rises_far xs up i (suc j) lt in' =
    let e : j + 1 ≡ suc j = omega arith in
    let last : get_or xs j 0 < get_or xs (suc j) 0 = subst (λ m. get_or xs j 0 < get_or xs m 0) e (up j (omega (arith, in', e))) in
    elim (cases_eq i j) [
      | inl same ↦ subst (λ m. get_or xs m 0 < get_or xs (suc j) 0) (sym same) last
      | inr ne ↦ omega (arith, last, rises_far xs up i j (omega (arith, lt, ne)) (omega (arith, in')))
    ]

pub rises_once : (xs : List ℕ) → IsStrictlyIncreasing xs → (i j : ℕ) → i < length xs → j < length xs → get_or xs i 0 ≡ get_or xs j 0 → i ≡ j
rises_once xs up i j li lj e =
    elim (cases_order i j) [
      | inl same ↦ same
      | inr (inl lt) ↦ absurd (omega (arith, e, rises_far xs up i j lt lj))
      | inr (inr gt) ↦ absurd (omega (arith, e, rises_far xs up j i gt li))
    ]

pub map_same : {X Y : Type 0} (f g : X → Y) (xs : List X) (d : X) → ((k : ℕ) → k < length xs → g (get_or xs k d) ≡ f (get_or xs k d)) → map g xs ≡ map f xs
map_same f g [] d h = refl
map_same f g (x ∷ xs) d h = λ i. h zero (omega arith) i ∷ map_same f g xs d (λ k lt. h (suc k) (omega (arith, lt))) i

-- a mapped list after the function changed at one element
pub map_at : {X Y : Type 0} (f g : X → Y) (xs : List X) (j : ℕ) (d : X) (y : Y) → j < length xs → g (get_or xs j d) ≡ y → ((k : ℕ) → k < length xs → k ≢ j → g (get_or xs k d) ≡ f (get_or xs k d)) → map g xs ≡ set (map f xs) j y
map_at f g [] j d y lt here others = absurd (omega (arith, lt))
map_at f g (x ∷ xs) zero d y lt here others = λ i. here i ∷ map_same f g xs d (λ k h. others (suc k) (omega (arith, h)) (λ e. omega (arith, e))) i
map_at f g (x ∷ xs) (suc j) d y lt here others = λ i. others zero (omega arith) (λ e. omega (arith, e)) i ∷ map_at f g xs j d y (omega (arith, lt)) here (λ k h ne. others (suc k) (omega (arith, h)) (λ e. ne (omega (arith, e)))) i

pub filter_short : {X : Type 0} (p : X → Bool) (xs : List X) → length (filter p xs) ≤ length xs
filter_short p [] = omega arith
filter_short p (x ∷ xs) =
    let h = filter_short p xs in
    elim (cases_Bool (p x)) [
      | inl t ↦ subst (λ b. length (cond b (x ∷ filter p xs) (filter p xs)) ≤ suc (length xs)) (sym t) (omega (arith, h))
      | inr f ↦ subst (λ b. length (cond b (x ∷ filter p xs) (filter p xs)) ≤ suc (length xs)) (sym f) (omega (arith, h))
    ]
