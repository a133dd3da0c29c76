-- The least pairing of a part is the least one also where its tracks go by other numbers.
use Rattle.std.proofs.Common.{◌≡◌, ◌<◌, inl, inr, ℕ, zero, suc, ◌+◌, List, [], ◌∷◌, length, Option, Some, None, is_some, arith, refl, sym, ◌∙◌, ap, subst}
use Rattle.std.specs.List.Sorted.{IsStrictlyIncreasing}
use Rattle.std.proofs.lemmas.Bool.{cases_lt, cases_order}
use Rattle.assignment_dual.specs.Pairings.{Row, paired_cost, AllGate, Misses, Once, cost, NotAfter, ComesFirst, IsLeast}
use Rattle.assignment_dual.specs.Rests.{row_at}
use Rattle.assignment_dual.specs.Renumbering.{number_at, IsRenumbered, AreRenumbered, renumbered}

-- by recursion on the two lists
abbrev Each : List ℕ → List Row → List Row → Type 0
Each numbers [] [] = Unit {0}
Each numbers [] (other ∷ others) = ⊥
Each numbers (row ∷ rows) [] = ⊥
Each numbers (row ∷ rows) (other ∷ others) = IsRenumbered numbers row other × Each numbers rows others

each_of : (numbers : List ℕ) (rows others : List Row) → length others ≡ length rows → ((plot : ℕ) → plot < length rows → IsRenumbered numbers (row_at rows plot) (row_at others plot)) → Each numbers rows others
each_of numbers [] [] l f = tt
each_of numbers [] (other ∷ others) l f = absurd (omega arith)
each_of numbers (row ∷ rows) [] l f = absurd (omega arith)
each_of numbers (row ∷ rows) (other ∷ others) l f = (f 0 (omega arith), each_of numbers rows others (omega arith) (λ plot h. f (suc plot) (omega (arith, h))))

-- each place that is named is a place of the list
abbrev Within : List ℕ → List (Option ℕ) → Type 0
Within numbers [] = Unit {0}
Within numbers (None ∷ xs) = Within numbers xs
Within numbers (Some place ∷ xs) = (place < length numbers) × Within numbers xs

within_of : (numbers : List ℕ) (rows others : List Row) (xs : List (Option ℕ)) → Each numbers rows others → AllGate rows xs → Within numbers xs
within_of numbers [] [] [] e g = tt
within_of numbers [] [] (x ∷ xs) e g = absurd g
within_of numbers [] (other ∷ others) xs e g = absurd e
within_of numbers (row ∷ rows) [] xs e g = absurd e
within_of numbers (row ∷ rows) (other ∷ others) [] e g = absurd g
within_of numbers (row ∷ rows) (other ∷ others) (None ∷ xs) e g = within_of numbers rows others xs e.1 g.1
within_of numbers (row ∷ rows) (other ∷ others) (Some place ∷ xs) e g = (e.0.within place g.0, within_of numbers rows others xs e.1 g.1)

gates_on : (numbers : List ℕ) (rows others : List Row) (xs : List (Option ℕ)) → Each numbers rows others → AllGate rows xs → AllGate others (renumbered numbers xs)
gates_on numbers [] [] [] e g = tt
gates_on numbers [] [] (x ∷ xs) e g = absurd g
gates_on numbers [] (other ∷ others) xs e g = absurd e
gates_on numbers (row ∷ rows) [] xs e g = absurd e
gates_on numbers (row ∷ rows) (other ∷ others) [] e g = absurd g
gates_on numbers (row ∷ rows) (other ∷ others) (None ∷ xs) e g = (tt, gates_on numbers rows others xs e.1 g.1)
gates_on numbers (row ∷ rows) (other ∷ others) (Some place ∷ xs) e g = (ap is_some (e.0.same place (e.0.within place g.0)) ∙ g.0, gates_on numbers rows others xs e.1 g.1)

cost_on : (numbers : List ℕ) (rows others : List Row) (xs : List (Option ℕ)) → Each numbers rows others → AllGate rows xs → cost others (renumbered numbers xs) ≡ cost rows xs
cost_on numbers [] [] xs e g = refl
cost_on numbers [] (other ∷ others) xs e g = absurd e
cost_on numbers (row ∷ rows) [] xs e g = absurd e
cost_on numbers (row ∷ rows) (other ∷ others) [] e g = absurd g
cost_on numbers (row ∷ rows) (other ∷ others) (None ∷ xs) e g = omega (arith, cost_on numbers rows others xs e.1 g.1)
cost_on numbers (row ∷ rows) (other ∷ others) (Some place ∷ xs) e g = omega (arith, ap paired_cost (e.0.same place (e.0.within place g.0)), cost_on numbers rows others xs e.1 g.1)

-- numbers that rise tell the order of their places
pub rise_on : (numbers : List ℕ) → IsStrictlyIncreasing numbers → (a b : ℕ) → a < b → b < length numbers → number_at numbers a < number_at numbers b
rise_on numbers r a zero h k = absurd (omega (arith, h))
rise_on numbers r a (suc b) h k =
    let e : b + 1 ≡ suc b = omega arith in
    let last : number_at numbers b < number_at numbers (suc b) = subst (λ (o : ℕ). number_at numbers b < number_at numbers o) e (r b (omega (arith, k, e))) in
    elim (cases_lt a b) [
      | inl l ↦ omega (arith, rise_on numbers r a b l (omega (arith, k)), last)
      | inr l ↦ let q : a ≡ b = omega (arith, h, l) in subst (λ (o : ℕ). number_at numbers o < number_at numbers (suc b)) (sym q) last
    ]

one_place : (numbers : List ℕ) → IsStrictlyIncreasing numbers → (a b : ℕ) → a < length numbers → b < length numbers → number_at numbers a ≡ number_at numbers b → a ≡ b
one_place numbers r a b h k e = elim (cases_order a b) [
  | inl q ↦ q
  | inr l ↦ elim l [ inl q ↦ absurd (omega (arith, e, rise_on numbers r a b q k)) | inr q ↦ absurd (omega (arith, e, rise_on numbers r b a q h)) ]
]

some_is : {a b : ℕ} → Some a ≡ Some b → a ≡ b
some_is e = cc

misses_on : (numbers : List ℕ) → IsStrictlyIncreasing numbers → (place : ℕ) → place < length numbers → (xs : List (Option ℕ)) → Within numbers xs → Misses place xs → Misses (number_at numbers place) (renumbered numbers xs)
misses_on numbers r place h [] w m = tt
misses_on numbers r place h (None ∷ xs) w m = ((λ e. cc), misses_on numbers r place h xs w m.1)
misses_on numbers r place h (Some other ∷ xs) w m = ((λ e. m.0 (ap Some (one_place numbers r other place w.0 h (some_is e)))), misses_on numbers r place h xs w.1 m.1)

once_on : (numbers : List ℕ) → IsStrictlyIncreasing numbers → (xs : List (Option ℕ)) → Within numbers xs → Once xs → Once (renumbered numbers xs)
once_on numbers r [] w o = tt
once_on numbers r (None ∷ xs) w o = once_on numbers r xs w o
once_on numbers r (Some place ∷ xs) w o = (misses_on numbers r place w.0 xs w.1 o.0, once_on numbers r xs w.1 o.1)

misses_back : (numbers : List ℕ) (place : ℕ) (xs : List (Option ℕ)) → Misses (number_at numbers place) (renumbered numbers xs) → Misses place xs
misses_back numbers place [] m = tt
misses_back numbers place (None ∷ xs) m = ((λ e. cc), misses_back numbers place xs m.1)
misses_back numbers place (Some other ∷ xs) m = ((λ e. m.0 (ap (λ (o : ℕ). Some (number_at numbers o)) (some_is e))), misses_back numbers place xs m.1)

once_back : (numbers : List ℕ) (xs : List (Option ℕ)) → Once (renumbered numbers xs) → Once xs
once_back numbers [] o = tt
once_back numbers (None ∷ xs) o = once_back numbers xs o
once_back numbers (Some place ∷ xs) o = (misses_back numbers place xs o.0, once_back numbers xs o.1)

before_on : (numbers : List ℕ) → IsStrictlyIncreasing numbers → (xs ys : List (Option ℕ)) → Within numbers xs → Within numbers ys → NotAfter xs ys → NotAfter (renumbered numbers xs) (renumbered numbers ys)
before_on numbers r [] ys w v h = tt
before_on numbers r (x ∷ xs) [] w v h = absurd h
before_on numbers r (None ∷ xs) (None ∷ ys) w v h = elim h [ inl a ↦ absurd a | inr a ↦ inr (refl, before_on numbers r xs ys w v a.1) ]
before_on numbers r (None ∷ xs) (Some b ∷ ys) w v h = elim h [ inl a ↦ absurd a | inr a ↦ absurd (let z = a.0 in cc) ]
before_on numbers r (Some a ∷ xs) (None ∷ ys) w v h = inl tt
before_on numbers r (Some a ∷ xs) (Some b ∷ ys) w v h = elim h [
  | inl l ↦ inl (rise_on numbers r a b l v.0)
  | inr e ↦ inr (ap (λ (o : ℕ). Some (number_at numbers o)) (some_is e.0), before_on numbers r xs ys w.1 v.1 e.1)
]

-- a pairing by numbers, by their places
record ByIndices (numbers : List ℕ) (rows : List Row) (ys : List (Option ℕ)) : Type 0 where
  pub places : List (Option ℕ)
  pub gates : AllGate rows places
  pub is : renumbered numbers places ≡ ys

indices_of : (numbers : List ℕ) (rows others : List Row) (ys : List (Option ℕ)) → Each numbers rows others → AllGate others ys → ByIndices numbers rows ys
indices_of numbers [] [] [] e g = record { places = []; gates = tt; is = refl }
indices_of numbers [] [] (y ∷ ys) e g = absurd g
indices_of numbers [] (other ∷ others) ys e g = absurd e
indices_of numbers (row ∷ rows) [] ys e g = absurd e
indices_of numbers (row ∷ rows) (other ∷ others) [] e g = absurd g
indices_of numbers (row ∷ rows) (other ∷ others) (None ∷ ys) e g =
    let b : ByIndices numbers rows ys = indices_of numbers rows others ys e.1 g.1 in
    record { places = None ∷ b.places; gates = (tt, b.gates); is = ap (λ (o : List (Option ℕ)). None ∷ o) b.is }
indices_of numbers (row ∷ rows) (other ∷ others) (Some track ∷ ys) e g =
    let b : ByIndices numbers rows ys = indices_of numbers rows others ys e.1 g.1 in
    let n : (place : ℕ) × (place < length numbers) × (number_at numbers place ≡ track) = e.0.named track g.0 in
    let o : other track ≡ row n.0 = sym (ap other n.2) ∙ e.0.same n.0 n.1 in
    record {
      places = Some n.0 ∷ b.places;
      gates = (sym (ap is_some o) ∙ g.0, b.gates);
      is = ap (λ (t : ℕ). Some t ∷ renumbered numbers b.places) n.2 ∙ ap (λ (o : List (Option ℕ)). Some track ∷ o) b.is;
    }

first_on : (numbers : List ℕ) (rows others : List Row) → IsStrictlyIncreasing numbers → Each numbers rows others → (xs zs : List (Option ℕ)) → AllGate rows xs → AllGate rows zs → ComesFirst rows xs zs → ComesFirst others (renumbered numbers xs) (renumbered numbers zs)
first_on numbers rows others r e xs zs g k h =
    let a : cost others (renumbered numbers xs) ≡ cost rows xs = cost_on numbers rows others xs e g in
    let b : cost others (renumbered numbers zs) ≡ cost rows zs = cost_on numbers rows others zs e k in
    elim h [
      | inl l ↦ inl (omega (arith, a, b, l))
      | inr q ↦ inr (a ∙ q.0 ∙ sym b, before_on numbers r xs zs (within_of numbers rows others xs e g) (within_of numbers rows others zs e k) q.1)
    ]

pub other_numbers : (numbers : List ℕ) (rows others : List Row) (xs : List (Option ℕ)) → IsStrictlyIncreasing numbers → AreRenumbered numbers rows others → IsLeast rows xs → IsLeast others (renumbered numbers xs)
other_numbers numbers rows others xs r n l =
    let e : Each numbers rows others = each_of numbers rows others n.count n.each in
    record {
      pairing = record {
        gates = gates_on numbers rows others xs e l.pairing.gates;
        once = once_on numbers r xs (within_of numbers rows others xs e l.pairing.gates) l.pairing.once;
      };
      first = λ ys p.
          let b : ByIndices numbers rows ys = indices_of numbers rows others ys e p.gates in
          let o : Once b.places = once_back numbers b.places (subst Once (sym b.is) p.once) in
          subst (ComesFirst others (renumbered numbers xs)) b.is (first_on numbers rows others r e xs b.places l.pairing.gates b.gates (l.first b.places (record { gates = b.gates; once = o })));
    }
