-- No number is given twice.
use Rattle.std.proofs.Common.{◌≡◌, refl, ap, subst, inl, inr, ℕ, zero, suc, ◌+◌, ◌-◌, ◌%◌, ◌≤◌, ◌<◌, Bool, true, false, cond, List, [], ◌∷◌, ◌++◌, eqb, arith}
use Rattle.std.specs.Prelude.{⊤, ◌||◌, ◌&&◌, ◌⊎◌, not, Option, Some, None}
use Rattle.std.specs.Option.{option_or, option_to_list, is_none}
use Rattle.std.specs.List.{AllByRecursion, IsDistinct, cons_option, find, range_with_len}
use Rattle.std.proofs.lemmas.Bool.{eqb-true, eq-eqb, ne_eqb}
use Rattle.track_life.specs.Tracks.{TrackState}
use Rattle.track_life.specs.Numbers.{IsNumber, held, is_among, tried, first_free, new_number, given, assigned}

-- what is found passes the test, and is one of the list
found_passes : (p : ℕ → Bool) (Q : ℕ → Type 0) (xs : List ℕ) (k : ℕ) → AllByRecursion Q xs → find p xs ≡ Some k → (p k ≡ true) × Q k
found_passes p Q [] k h e = cc
found_passes p Q (x ∷ xs) k h e = go (p x) refl e (found_passes p Q xs k h.1)
  where
    go : (b : Bool) → p x ≡ b → cond b (Some x) (find p xs) ≡ Some k → (find p xs ≡ Some k → (p k ≡ true) × Q k) → (p k ≡ true) × Q k
    go true is e later = let same : x ≡ k = cc in (subst (λ y. p y ≡ true) same is, subst Q same h.0)
    go false is e later = later e

range_in : (a n : ℕ) → 1 ≤ a → a + n ≤ 65536 → AllByRecursion IsNumber (range_with_len a n)
range_in a zero low high = tt
range_in a (suc n) low high = ((low, omega (arith, high)), range_in (a + 1) n (omega arith) (omega (arith, high)))

all_both : (Q : ℕ → Type 0) (xs ys : List ℕ) → AllByRecursion Q xs → AllByRecursion Q ys → AllByRecursion Q (xs ++ ys)
all_both Q [] ys h g = g
all_both Q (x ∷ xs) ys h g = (h.0, all_both Q xs ys h.1 g)

pub tried_in : (arrival : ℕ) → AllByRecursion IsNumber (tried arrival)
unfolding tried
tried_in arrival =
    let x = arrival % 65535 in
    let small : x < 65535 = omega arith in
    all_both IsNumber (range_with_len (1 + x) (65535 - x)) (range_with_len 1 x) (range_in (1 + x) (65535 - x) (omega arith) (omega (arith, small))) (range_in 1 x (omega arith) (omega (arith, small)))

-- the number that is given is free, and a track number
free_given : (numbers : List ℕ) (arrival k : ℕ) → first_free numbers arrival ≡ Some k → (is_among numbers k ≡ false) × IsNumber k
free_given numbers arrival k e =
    let h = found_passes (λ n. not (is_among numbers n)) IsNumber (tried arrival) k (tried_in arrival) e in
    (free (is_among numbers k) h.0, h.1)
  where
    free : (b : Bool) → not b ≡ true → b ≡ false
    free true e = cc
    free false e = refl

-- who has a number is given none, and what is given is free
abbrev IsGiven : List ℕ → Option ℕ → Option ℕ → Type 0
IsGiven numbers x None = ⊤
IsGiven numbers None (Some k) = (is_among numbers k ≡ false) × IsNumber k
IsGiven numbers (Some j) (Some k) = ⊥

is_given : (numbers : List ℕ) (t : TrackState) → IsGiven numbers t.number (new_number numbers t)
is_given numbers t = go t.confirmed t.number
  where
    waited : (g : Option ℕ) → first_free numbers t.birth.arrival ≡ g → IsGiven numbers None g
    waited None e = tt
    waited (Some k) e = free_given numbers t.birth.arrival k e

    go : (c : Bool) (x : Option ℕ) → IsGiven numbers x (cond (c && is_none x) (first_free numbers t.birth.arrival) None)
    go true None = waited (first_free numbers t.birth.arrival) refl
    go false None = tt
    go true (Some k) = tt
    go false (Some k) = tt

all_held : (P : ℕ → Type 0) (numbers : List ℕ) (m : ℕ) → AllByRecursion P numbers → is_among numbers m ≡ true → P m
all_held P [] m h e = cc
all_held P (n ∷ numbers) m h e = either (eqb n m) (is_among numbers m) e (λ is. subst P (eqb-true n m is) h.0) (all_held P numbers m h.1)
  where
    either : (a b : Bool) → (a || b) ≡ true → (a ≡ true → P m) → (b ≡ true → P m) → P m
    either true b e f g = f refl
    either false b e f g = g e

-- the numbers after numbers were given: no two are one, and each was held by these tracks or by none
record Apart (numbers hs ms : List ℕ) : Type 0 where
  differ : IsDistinct eqb ms
  apart : AllByRecursion (λ m. (is_among hs m ≡ true) ⊎ (is_among numbers m ≡ false)) ms

abbrev AreHeld : List ℕ → List ℕ → Type 0
AreHeld numbers hs = AllByRecursion (λ m. is_among numbers m ≡ true) hs

clash : (b : Bool) → b ≡ true → b ≡ false → ⊥
clash b e d = cc

itself : (k : ℕ) (ns : List ℕ) → is_among (k ∷ ns) k ≡ true
itself k ns = ap (λ b. b || is_among ns k) (eq-eqb k k refl)

pub weaker : (P Q : ℕ → Type 0) (xs : List ℕ) → ((n : ℕ) → P n → Q n) → AllByRecursion P xs → AllByRecursion Q xs
weaker P Q [] f h = tt
weaker P Q (x ∷ xs) f h = (f x h.0, weaker P Q xs f h.1)

or_else : (a b : Bool) → b ≡ true → (a || b) ≡ true
or_else true b e = refl
or_else false b e = e

or_neither : (a b : Bool) → (a || b) ≡ false → (a ≡ false) × (b ≡ false)
or_neither true b e = cc
or_neither false b e = (refl, e)

step : (numbers hs : List ℕ) (rest : List ℕ → List ℕ) (x g : Option ℕ) → IsGiven numbers x g → IsDistinct eqb (cons_option x hs) → AreHeld numbers (cons_option x hs)
    → ((ns : List ℕ) → IsDistinct eqb hs → AreHeld ns hs → Apart ns hs (rest ns)) → Apart numbers (cons_option x hs) (cons_option (option_or x g) (rest (option_to_list g ++ numbers)))
unfolding IsDistinct
step numbers hs rest None None f d s later = later numbers d s
step numbers hs rest None (Some k) f d s later =
    let after = later (k ∷ numbers) d (weaker _ _ hs (λ m e. or_else (eqb k m) (is_among numbers m) e) s) in
    record {
      differ = (
        weaker _ (λ m. eqb k m ≡ false) (rest (k ∷ numbers)) (λ m. elim [
          | inl e ↦ ne_eqb k m (λ same. clash (is_among numbers m) (all_held (λ n. is_among numbers n ≡ true) hs m s e) (subst (λ n. is_among numbers n ≡ false) same f.0))
          | inr e ↦ (or_neither (eqb k m) (is_among numbers m) e).0
        ]) after.apart,
        after.differ,
      );
      apart = (
        inr f.0,
        weaker _ _ (rest (k ∷ numbers)) (λ m. elim [
          | inl e ↦ inl e
          | inr e ↦ inr (or_neither (eqb k m) (is_among numbers m) e).1
        ]) after.apart,
      );
    }
step numbers hs rest (Some k) None f d s later =
    let after = later numbers d.1 s.1 in
    record {
      differ = (
        weaker _ (λ m. eqb k m ≡ false) (rest numbers) (λ m. elim [
          | inl e ↦ all_held (λ n. eqb k n ≡ false) hs m d.0 e
          | inr e ↦ ne_eqb k m (λ same. clash (is_among numbers m) (subst (λ n. is_among numbers n ≡ true) same s.0) e)
        ]) after.apart,
        after.differ,
      );
      apart = (
        inl (itself k hs),
        weaker _ _ (rest numbers) (λ m. elim [
          | inl e ↦ inl (or_else (eqb k m) (is_among hs m) e)
          | inr e ↦ inr e
        ]) after.apart,
      );
    }
step numbers hs rest (Some j) (Some k) f d s later = absurd f

apart_given : (numbers : List ℕ) (ts : List TrackState) → IsDistinct eqb (held ts) → AreHeld numbers (held ts) → Apart numbers (held ts) (held (given numbers ts))
unfolding IsDistinct
apart_given numbers [] d s = record { differ = tt; apart = tt }
apart_given numbers (t ∷ ts) d s = step numbers (held ts) (λ ns. held (given ns ts)) t.number (new_number numbers t) (is_given numbers t) d s (λ ns. apart_given ns ts)

all_among : (ns : List ℕ) → AreHeld ns ns
all_among [] = tt
all_among (n ∷ ns) = (itself n ns, weaker _ _ ns (λ m e. or_else (eqb n m) (is_among ns m) e) (all_among ns))

pub still_differ : (ts : List TrackState) → IsDistinct eqb (held ts) → IsDistinct eqb (held (assigned ts))
unfolding assigned
still_differ ts d = (apart_given (held ts) ts d (all_among (held ts))).differ

number_in : (numbers : List ℕ) (x g : Option ℕ) (hs ms : List ℕ) → IsGiven numbers x g → AllByRecursion IsNumber (cons_option x hs) → (AllByRecursion IsNumber hs → AllByRecursion IsNumber ms) → AllByRecursion IsNumber (cons_option (option_or x g) ms)
number_in numbers None None hs ms f h later = later h
number_in numbers None (Some k) hs ms f h later = (f.1, later h)
number_in numbers (Some j) None hs ms f h later = (h.0, later h.1)
number_in numbers (Some j) (Some k) hs ms f h later = absurd f

given_in : (numbers : List ℕ) (ts : List TrackState) → AllByRecursion IsNumber (held ts) → AllByRecursion IsNumber (held (given numbers ts))
given_in numbers [] h = tt
given_in numbers (t ∷ ts) h = number_in numbers t.number (new_number numbers t) (held ts) (held (given (option_to_list (new_number numbers t) ++ numbers) ts)) (is_given numbers t) h (given_in (option_to_list (new_number numbers t) ++ numbers) ts)

pub still_numbers : (ts : List TrackState) → AllByRecursion IsNumber (held ts) → AllByRecursion IsNumber (held (assigned ts))
unfolding assigned
still_numbers ts h = given_in (held ts) ts h
