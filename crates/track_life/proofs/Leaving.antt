-- Who is left without a number: where all are held.
use Rattle.std.proofs.Common.{◌≡◌, ◌∙◌, refl, sym, ap, subst, inl, inr, ℕ, zero, suc, ◌+◌, ◌-◌, ◌%◌, ◌≤◌, ◌<◌, Bool, true, false, cond, List, [], ◌∷◌, ◌++◌, eqb, arith}
use Rattle.std.specs.Prelude.{◌||◌, ◌&&◌, ◌⊎◌, not, Option, Some, None, is_some}
use Rattle.std.specs.Option.{option_or, option_to_list, is_none}
use Rattle.std.specs.List.{AllByRecursion, cons_option, find, range_with_len}
use Rattle.std.proofs.lemmas.Bool.{cases_lt, cases_eq}
use Rattle.track_life.specs.Tracks.{TrackState}
use Rattle.track_life.proofs.Differing.{tried_in, weaker}
use Rattle.track_life.specs.Numbers.{IsNumber, with_number, held, is_among, tried, first_free, is_waiting, new_number, given, assigned}

not_found : (p : ℕ → Bool) (xs : List ℕ) → find p xs ≡ None → AllByRecursion (λ n. p n ≡ false) xs
not_found p [] e = tt
not_found p (x ∷ xs) e = go (p x) refl e (not_found p xs)
  where
    go : (b : Bool) → p x ≡ b → cond b (Some x) (find p xs) ≡ None → (find p xs ≡ None → AllByRecursion (λ n. p n ≡ false) xs) → (p x ≡ false) × AllByRecursion (λ n. p n ≡ false) xs
    go true is e later = cc
    go false is e later = (is, later e)

in_range : (P : ℕ → Type 0) (a k m : ℕ) → AllByRecursion P (range_with_len a k) → a ≤ m → m < a + k → P m
in_range P a zero m h low high = absurd (omega (arith, low, high))
in_range P a (suc k) m h low high =
    elim (cases_eq m a) [
      | inl e ↦ subst P (sym e) h.0
      | inr ne ↦ in_range P (a + 1) k m h.1 (omega (arith, low, ne)) (omega (arith, high))
    ]

both_parts : (P : ℕ → Type 0) (xs ys : List ℕ) → AllByRecursion P (xs ++ ys) → AllByRecursion P xs × AllByRecursion P ys
both_parts P [] ys h = (tt, h)
both_parts P (x ∷ xs) ys h = let rest = both_parts P xs ys h.1 in ((h.0, rest.0), rest.1)

in_tried : (P : ℕ → Type 0) (arrival n : ℕ) → AllByRecursion P (tried arrival) → IsNumber n → P n
unfolding tried
in_tried P arrival n h is =
    let x = arrival % 65535 in
    let small : x < 65535 = omega arith in
    let both = both_parts P (range_with_len (1 + x) (65535 - x)) (range_with_len 1 x) h in
    elim (cases_lt n (1 + x)) [
      | inl low ↦ in_range P 1 x n both.1 is.0 low
      | inr high ↦ in_range P (1 + x) (65535 - x) n both.0 high (omega (arith, is.1, small))
    ]

-- where none is free, all are held
none_free : (numbers : List ℕ) (arrival : ℕ) → first_free numbers arrival ≡ None → (n : ℕ) → IsNumber n → is_among numbers n ≡ true
none_free numbers arrival e n is = held_then (is_among numbers n) (in_tried (λ m. not (is_among numbers m) ≡ false) arrival n (not_found (λ m. not (is_among numbers m)) (tried arrival) e) is)
  where
    held_then : (b : Bool) → not b ≡ false → b ≡ true
    held_then true e = refl
    held_then false e = cc

-- a track that still waits after it could be given a number
still_waits : (numbers : List ℕ) (t : TrackState) → is_waiting (with_number (option_or t.number (new_number numbers t)) t) ≡ true → (n : ℕ) → IsNumber n → is_among numbers n ≡ true
still_waits numbers t = go t.confirmed t.number (first_free numbers t.birth.arrival) refl
  where
    go : (c : Bool) (x g : Option ℕ) → first_free numbers t.birth.arrival ≡ g → (c && is_none (option_or x (cond (c && is_none x) g None))) ≡ true → (n : ℕ) → IsNumber n → is_among numbers n ≡ true
    go true None None e w = none_free numbers t.birth.arrival e
    go true None (Some k) e w = cc
    go true (Some j) g e w = cc
    go false x g e w = cc

-- that a number is held by these, or among those after numbers were given
abbrev IsHeldSo : List ℕ → List ℕ → ℕ → Type 0
IsHeldSo numbers ms n = (is_among numbers n ≡ true) ⊎ (is_among ms n ≡ true)

abbrev IsLeft : (ℕ → Type 0) → TrackState → Type 0
IsLeft P t = is_waiting t ≡ true → (n : ℕ) → IsNumber n → P n

all_weaker : (P Q : TrackState → Type 0) (ts : List TrackState) → ((t : TrackState) → P t → Q t) → AllByRecursion P ts → AllByRecursion Q ts
all_weaker P Q [] f h = tt
all_weaker P Q (t ∷ ts) f h = (f t h.0, all_weaker P Q ts f h.1)

or_true : (a b : Bool) → (a || b) ≡ true → (a ≡ true) ⊎ (b ≡ true)
or_true true b e = inl refl
or_true false b e = inr e

or_right : (a b : Bool) → b ≡ true → (a || b) ≡ true
or_right true b e = refl
or_right false b e = e

some_not_none : (k : ℕ) → Some k ≡ None → ⊥
some_not_none k e = cc

passed_on : (numbers ms : List ℕ) (x g : Option ℕ) (n : ℕ) → (is_some x ≡ true → g ≡ None) → IsHeldSo (option_to_list g ++ numbers) ms n → IsHeldSo numbers (cons_option (option_or x g) ms) n
passed_on numbers ms None None n f h = h
passed_on numbers ms (Some j) None n f (inl e) = inl e
passed_on numbers ms (Some j) None n f (inr e) = inr (or_right (eqb j n) (is_among ms n) e)
passed_on numbers ms None (Some k) n f (inl e) = elim (or_true (eqb k n) (is_among numbers n) e) [
  | inl is ↦ inr (ap (λ b. b || is_among ms n) is)
  | inr there ↦ inl there
]
passed_on numbers ms None (Some k) n f (inr e) = inr (or_right (eqb k n) (is_among ms n) e)
passed_on numbers ms (Some j) (Some k) n f h = absurd (some_not_none k (f refl))

own_alone : (numbers : List ℕ) (t : TrackState) → is_some t.number ≡ true → new_number numbers t ≡ None
own_alone numbers t = go t.confirmed t.number
  where
    go : (c : Bool) (x : Option ℕ) → is_some x ≡ true → cond (c && is_none x) (first_free numbers t.birth.arrival) None ≡ None
    go true None e = cc
    go true (Some k) e = refl
    go false x e = refl

left_given : (numbers : List ℕ) (ts : List TrackState) → AllByRecursion (IsLeft (IsHeldSo numbers (held (given numbers ts)))) (given numbers ts)
left_given numbers [] = tt
left_given numbers (t ∷ ts) =
    let g = new_number numbers t in
    let after = given (option_to_list g ++ numbers) ts in (
      (λ w n is. inl (still_waits numbers t w n is)),
      all_weaker _ _ after (λ u h w n is. passed_on numbers (held after) t.number g n (own_alone numbers t) (h w n is)) (left_given (option_to_list g ++ numbers) ts),
    )

-- who had a number has it still
kept_on : (x g : Option ℕ) (hs ms : List ℕ) (n : ℕ) → (is_among hs n ≡ true → is_among ms n ≡ true) → is_among (cons_option x hs) n ≡ true → is_among (cons_option (option_or x g) ms) n ≡ true
kept_on None None hs ms n f e = f e
kept_on None (Some k) hs ms n f e = or_right (eqb k n) (is_among ms n) (f e)
kept_on (Some j) g hs ms n f e = elim (or_true (eqb j n) (is_among hs n) e) [
  | inl is ↦ ap (λ b. b || is_among ms n) is
  | inr there ↦ or_right (eqb j n) (is_among ms n) (f there)
]

kept_given : (numbers : List ℕ) (ts : List TrackState) (n : ℕ) → is_among (held ts) n ≡ true → is_among (held (given numbers ts)) n ≡ true
kept_given numbers [] n e = e
kept_given numbers (t ∷ ts) n e = kept_on t.number (new_number numbers t) (held ts) (held (given (option_to_list (new_number numbers t) ++ numbers) ts)) n (kept_given (option_to_list (new_number numbers t) ++ numbers) ts n) e

pub left : (ts : List TrackState) → AllByRecursion (λ t. is_waiting t ≡ true → (n : ℕ) → IsNumber n → is_among (held (assigned ts)) n ≡ true) (assigned ts)
unfolding assigned
left ts = all_weaker _ _ (given (held ts) ts) (λ t h w n is. elim (h w n is) [
  | inl e ↦ kept_given (held ts) ts n e
  | inr e ↦ e
]) (left_given (held ts) ts)

-- who waits where all are held is given none
nothing_found : (p : ℕ → Bool) (xs : List ℕ) → AllByRecursion (λ n. p n ≡ false) xs → find p xs ≡ None
nothing_found p [] h = refl
nothing_found p (x ∷ xs) h = ap (λ b. cond b (Some x) (find p xs)) h.0 ∙ nothing_found p xs h.1

none_new : (numbers : List ℕ) (t : TrackState) → IsLeft (λ n. is_among numbers n ≡ true) t → new_number numbers t ≡ None
none_new numbers t h = go (is_waiting t) (λ w. nothing_found (λ m. not (is_among numbers m)) (tried t.birth.arrival) (weaker IsNumber _ (tried t.birth.arrival) (λ n is. ap not (h w n is)) (tried_in t.birth.arrival)))
  where
    go : (c : Bool) → (c ≡ true → first_free numbers t.birth.arrival ≡ None) → cond c (first_free numbers t.birth.arrival) None ≡ None
    go true f = f refl
    go false f = refl

itself : (x : Option ℕ) → option_or x None ≡ x
itself None = refl
itself (Some n) = refl

given_again : (numbers : List ℕ) (ts : List TrackState) → AllByRecursion (IsLeft (λ n. is_among numbers n ≡ true)) ts → given numbers ts ≡ ts
given_again numbers [] h = refl
given_again numbers (t ∷ ts) h =
    let none = none_new numbers t h.0 in
    ap (λ g. with_number (option_or t.number g) t ∷ given (option_to_list g ++ numbers) ts) none ∙ (λ j. with_number (itself t.number j) t ∷ given_again numbers ts h.1 j)

again : (ts : List TrackState) → AllByRecursion (IsLeft (λ n. is_among (held ts) n ≡ true)) ts → assigned ts ≡ ts
unfolding assigned
again ts h = given_again (held ts) ts h

pub assigned_again : (ts : List TrackState) → assigned (assigned ts) ≡ assigned ts
assigned_again ts = again (assigned ts) (left ts)
