-- What stands in a list, by recursion, and lists of numbers that rise.
use Rattle.std.proofs.Common.{◌≡◌, sym, refl, subst, ℕ, zero, suc, ◌≤◌, ◌<◌, ◌⊎◌, inl, inr, Bool, true, false, cond, ltb, List, [], ◌∷◌, length, arith}
use Rattle.std.specs.Prelude.{Contains, filter, nat_lt}
use Rattle.std.specs.List.{AllByRecursion, list_all}
use Rattle.std.specs.List.Sorted.{IsStrictlyIncreasing, IsStrictlySortedBy, IsPermutation}
use Rattle.std.specs.Ordering.{nat_cmp}
use Rattle.std.specs.declared.cmp.Ordering.TheVariants.{Less}
use Rattle.std.proofs.lemmas.Bool.{lt-ltb, ltb-true, cases_lt, and_parts}
use Rattle.std.proofs.lemmas.Cmp.{ranked}
use Rattle.std.proofs.lemmas.List.Sorted.{Contains-permutation}
use Rattle.std.proofs.lemmas.Map.Keys.{IsStrictlyIncreasing-from_sorted, sorted_from_strictly_increasing}
use Rattle.admission_log.proofs.Greatest.{Has}

-- ---- by index, and by recursion

pub has_of : {X : Type 0} (x : X) (xs : List X) → Contains xs x → Has x xs
has_of x [] h = absurd (omega (arith, h.1))
has_of x (y ∷ xs) (zero, lt, e) = inl (sym e)
has_of x (y ∷ xs) (suc k, lt, e) = inr (has_of x xs (k, omega (arith, lt), e))

pub of_has : {X : Type 0} (x : X) (xs : List X) → Has x xs → Contains xs x
of_has x [] h = absurd h
of_has x (y ∷ xs) (inl e) = (zero, omega arith, sym e)
of_has x (y ∷ xs) (inr h) = let rest = of_has x xs h in (suc rest.0, omega (arith, rest.1), rest.2)

pub has_moved : {X : Type 0} (x : X) (xs ys : List X) → IsPermutation xs ys → Has x xs → Has x ys
has_moved x xs ys p h = has_of x ys (Contains-permutation xs ys x p (of_has x xs h))

-- ---- all of them

pub all_of : {X : Type 0} (P : X → Type 0) (xs : List X) → ((x : X) → Has x xs → P x) → AllByRecursion P xs
all_of P [] f = tt
all_of P (x ∷ xs) f = (f x (inl refl), all_of P xs (λ y h. f y (inr h)))

pub all_at : {X : Type 0} (P : X → Type 0) (x : X) (xs : List X) → AllByRecursion P xs → Has x xs → P x
all_at P x [] all h = absurd h
all_at P x (y ∷ xs) all (inl e) = subst P (sym e) all.0
all_at P x (y ∷ xs) all (inr h) = all_at P x xs all.1 h

-- those of which each passes a test of numbers
pub all_above : {X : Type 0} (f : X → ℕ) (n : ℕ) (xs : List X) → list_all (λ x. nat_lt n (f x)) xs ≡ true → AllByRecursion (λ x. n < f x) xs
all_above f n [] h = tt
all_above f n (x ∷ xs) h =
    let both = and_parts (ltb n (f x)) (list_all (λ x. ltb n (f x)) xs) h in
    (ltb-true n (f x) both.0, all_above f n xs both.1)

pub above_all : {X : Type 0} (f : X → ℕ) (n : ℕ) (xs : List X) → AllByRecursion (λ x. n < f x) xs → list_all (λ x. nat_lt n (f x)) xs ≡ true
above_all f n [] h = refl
above_all f n (x ∷ xs) h = rw (lt-ltb n (f x) h.0) (above_all f n xs h.1)

-- all stand above a number, or one doesn't
pub all_or : {X : Type 0} (f : X → ℕ) (n : ℕ) (xs : List X) → AllByRecursion (λ x. n < f x) xs ⊎ ((x : X) × Has x xs × (f x ≤ n))
all_or f n [] = inl tt
all_or f n (x ∷ xs) = elim (cases_lt n (f x)) [
  | inl lt ↦ (elim (all_or f n xs) [
    | inl all ↦ inl (lt, all)
    | inr one ↦ inr (one.0, inr one.1, one.2)
  ])
  | inr le ↦ inr (x, inl refl, le)
]

-- ---- numbers that rise

less_of : (a b : ℕ) → a < b → nat_cmp a b ≡ Less
less_of a b lt = rw (lt-ltb a b lt) refl

-- each is below all after it
abbrev pub Rise : List ℕ → Type 0
Rise [] = Unit {0}
Rise (n ∷ ns) = AllByRecursion (λ m. n < m) ns × Rise ns

pub rise_of : (ns : List ℕ) → IsStrictlyIncreasing ns → Rise ns
unfolding IsStrictlySortedBy
rise_of ns up = of ns (sorted_from_strictly_increasing ns up)
  where
    below : (n m : ℕ) → nat_cmp n m ≡ Less → n < m
    below n m less = ranked n m Less (sym less)

    each : (n : ℕ) (ms : List ℕ) → AllByRecursion (λ m. nat_cmp n m ≡ Less) ms → AllByRecursion (λ m. n < m) ms
    each n [] h = tt
    each n (m ∷ ms) h = (below n m h.0, each n ms h.1)

    of : (ns : List ℕ) → IsStrictlySortedBy nat_cmp ns → Rise ns
    of [] h = tt
    of (n ∷ ns) h = (each n ns h.0, of ns h.1)

pub of_rise : (ns : List ℕ) → Rise ns → IsStrictlyIncreasing ns
unfolding IsStrictlySortedBy
of_rise ns up = IsStrictlyIncreasing-from_sorted ns (of ns up)
  where
    each : (n : ℕ) (ms : List ℕ) → AllByRecursion (λ m. n < m) ms → AllByRecursion (λ m. nat_cmp n m ≡ Less) ms
    each n [] h = tt
    each n (m ∷ ms) h = (less_of n m h.0, each n ms h.1)

    of : (ns : List ℕ) → Rise ns → IsStrictlySortedBy nat_cmp ns
    of [] h = tt
    of (n ∷ ns) h = (each n ns h.0, of ns h.1)

pub rise_filter : (p : ℕ → Bool) (ns : List ℕ) → Rise ns → Rise (filter p ns)
rise_filter p [] h = tt
rise_filter p (n ∷ ns) h = elim (p n) as (λ b. Rise (cond b (n ∷ filter p ns) (filter p ns))) [
  | true ↦ (kept n ns h.0, rise_filter p ns h.1)
  | false ↦ rise_filter p ns h.1
]
  where
    kept : (n : ℕ) (ms : List ℕ) → AllByRecursion (λ m. n < m) ms → AllByRecursion (λ m. n < m) (filter p ms)
    kept n [] h = tt
    kept n (m ∷ ms) h = elim (p m) as (λ b. AllByRecursion (λ m. n < m) (cond b (m ∷ filter p ms) (filter p ms))) [
      | true ↦ (h.0, kept n ms h.1)
      | false ↦ kept n ms h.1
    ]

-- the others after the first, among the others after the first
rest_in : (x y : ℕ) (xs ys : List ℕ) → Rise (x ∷ xs) → Rise (y ∷ ys) → ((z : ℕ) → Has z (x ∷ xs) → Has z (y ∷ ys)) → (z : ℕ) → Has z xs → Has z ys
rest_in x y xs ys up up' f z h = elim (f z (inr h)) [
  | inl e ↦ absurd (first (f x (inl refl)) e)
  | inr in_rest ↦ in_rest
]
  where
    first : Has x (y ∷ ys) → z ≡ y → ⊥
    first (inl same) e = omega (arith, all_at (λ m. x < m) z xs up.0 h, same, e)
    first (inr later) e = omega (arith, all_at (λ m. x < m) z xs up.0 h, all_at (λ m. y < m) x ys up'.0 later, e)

-- as many as those that they are among, at most
pub fewer : (xs ys : List ℕ) → Rise xs → Rise ys → ((z : ℕ) → Has z xs → Has z ys) → length xs ≤ length ys
fewer [] ys up up' f = omega arith
fewer (x ∷ xs) [] up up' f = absurd (f x (inl refl))
fewer (x ∷ xs) (y ∷ ys) up up' f = omega (arith, fewer xs ys up.1 up'.1 (rest_in x y xs ys up up' f))
