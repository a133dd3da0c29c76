-- The numbers of the parts that are used.
use Rattle.std.proofs.Common.{◌≡◌, ◌≢◌, sym, refl, ℕ, zero, suc, ◌+◌, ◌<◌, ◌≤◌, List, [], ◌∷◌, ◌++◌, length, Bool, true, false, eqb, arith, subst, inl, inr}
use Rattle.std.specs.Prelude.{◌⊎◌, ◌||◌, Contains, All}
use Rattle.std.specs.List.{AllByRecursion, list_any}
use Rattle.std.proofs.lemmas.Bool.{eq-eqb, cases_lt}
use Rattle.std.proofs.lemmas.List.Elements.{All-contains}
use Rattle.span_clusters.specs.Interleavings.{EachPair}
use Rattle.span_clusters.specs.Jobs.{AreUsed}
use Rattle.span_clusters.proofs.Interleavings.{contains_first, contains_later, contains_cons, contains_left, contains_end}

-- those below n that are used
pub record UsedBelow (given : List ℕ) (n : ℕ) (parts : List ℕ) : Type 0 where
  pub below : AllByRecursion (λ k. k < n) parts
  pub few : length parts ≤ n
  pub some : 0 < n → 1 ≤ length parts
  pub differ : EachPair (λ i j. i ≢ j) parts
  pub there : (k : ℕ) → Contains given k → k < n → Contains parts k
  pub used : AllByRecursion (λ k. (k ≡ 0) ⊎ Contains given k) parts

length_snoc : {X : Type 0} (xs : List X) (x : X) → length (xs ++ x ∷ []) ≡ length xs + 1
length_snoc [] x = refl
length_snoc (y ∷ xs) x = omega (arith, length_snoc xs x)

all_snoc : {X : Type 0} (P : X → Type 0) (xs : List X) (x : X) → AllByRecursion P xs → P x → AllByRecursion P (xs ++ x ∷ [])
all_snoc P [] x h p = (p, tt)
all_snoc P (y ∷ xs) x h p = (h.0, all_snoc P xs x h.1 p)

higher : (n : ℕ) (ks : List ℕ) → AllByRecursion (λ k. k < n) ks → AllByRecursion (λ k. k < n + 1) ks
higher n [] h = tt
higher n (k ∷ ks) h = (omega (arith, h.0), higher n ks h.1)

differ_snoc : (ks : List ℕ) (n : ℕ) → EachPair (λ i j. i ≢ j) ks → AllByRecursion (λ k. k < n) ks → EachPair (λ i j. i ≢ j) (ks ++ n ∷ [])
differ_snoc [] n d h = (tt, tt)
differ_snoc (k ∷ ks) n d h = (all_snoc (λ j. k ≢ j) ks n d.0 (λ e. let l : k < n = h.0 in omega (arith, l, e)), differ_snoc ks n d.1 h.1)

below_or : (k n : ℕ) → k < n + 1 → (k < n) ⊎ (k ≡ n)
below_or k n l = elim (cases_lt k n) [ inl lt ↦ inl lt | inr le ↦ inr (omega (arith, le, l)) ]

pub none_below : (given : List ℕ) → UsedBelow given 0 []
none_below given = record { below = tt; few = omega arith; some = λ l. absurd (omega (arith, l)); differ = tt; there = λ k c l. absurd (omega (arith, l)); used = tt }

pub used_one : (given : List ℕ) (n : ℕ) (parts : List ℕ) → (n ≡ 0) ⊎ Contains given n → UsedBelow given n parts → UsedBelow given (n + 1) (parts ++ n ∷ [])
used_one given n parts t u =
    let more : length (parts ++ n ∷ []) ≡ length parts + 1 = length_snoc parts n in
    record {
      below = all_snoc (λ k. k < n + 1) parts n (higher n parts u.below) (omega arith);
      few = let f = u.few in omega (arith, f, more);
      some = λ l. omega (arith, more);
      differ = differ_snoc parts n u.differ u.below;
      there = λ k c l. elim (below_or k n l) [
        | inl m ↦ contains_left parts (n ∷ []) k (u.there k c m)
        | inr e ↦ contains_end parts n k (sym e)
      ];
      used = all_snoc (λ k. (k ≡ 0) ⊎ Contains given k) parts n u.used t;
    }

pub unused_one : (given : List ℕ) (n : ℕ) (parts : List ℕ) → (n ≡ 0 → ⊥) → (Contains given n → ⊥) → UsedBelow given n parts → UsedBelow given (n + 1) parts
unused_one given n parts z none u = record {
  below = higher n parts u.below;
  few = let f = u.few in omega (arith, f);
  some = λ l. u.some (above n z);
  differ = u.differ;
  there = λ k c l. elim (below_or k n l) [
    | inl m ↦ u.there k c m
    | inr e ↦ absurd (none (subst (Contains given) e c))
  ];
  used = u.used;
}
  where
    above : (m : ℕ) → (m ≡ 0 → ⊥) → 0 < m
    above zero z = absurd (z refl)
    above (suc m) z = omega arith

all_of : (given parts : List ℕ) (P : ℕ → Type 0) → ((k : ℕ) → Contains given k → P k) → AllByRecursion P given
all_of [] parts P f = tt
all_of (k ∷ given) parts P f = (f k (contains_first k k given refl), all_of given parts P (λ j c. f j (contains_later k j given c)))

pub used_all : (given : List ℕ) (wish : ℕ) (parts : List ℕ) → 1 ≤ wish → ((k : ℕ) → Contains given k → k < wish) → UsedBelow given wish parts → AreUsed given wish parts
used_all given wish parts l below u = record {
  some = u.some (omega (arith, l));
  few = u.few;
  differ = u.differ;
  there = all_of given parts (Contains parts) (λ k c. u.there k c (below k c));
  used = u.used;
}

pub all_below : (given : List ℕ) (wish : ℕ) → All (λ k. k < wish) given → (k : ℕ) → Contains given k → k < wish
all_below given wish h k c = All-contains (λ j. j < wish) given k h c

-- what a slice's test for an element says
pub any_there : (k : ℕ) (ks : List ℕ) → Contains ks k → list_any (λ y. eqb y k) ks ≡ true
any_there k [] c = absurd (omega (arith, c.1))
any_there k (j ∷ ks) c = elim (contains_cons j k ks c) [
  | inl e ↦ rw (eq-eqb j k e) refl
  | inr d ↦ or_right (eqb j k) (list_any (λ y. eqb y k) ks) (any_there k ks d)
]
  where
    or_right : (a b : Bool) → b ≡ true → (a || b) ≡ true
    or_right true b e = refl
    or_right false b e = e
