-- There is one least pairing, and batches whose rows agree have the same.
use Rattle.std.proofs.Common.{◌≡◌, ◌<◌, ◌∙◌, ap, sym, refl, ℕ, suc, List, [], ◌∷◌, length, Option, Some, None, is_some, arith, subst, inl, inr}
use Rattle.assignment_dual.specs.Pairings.{Row, paired_cost, AllGate, cost, EntryBefore, NotAfter, ComesFirst, IsLeast}
use Rattle.assignment_dual.specs.Rests.{row_at}
use Rattle.assignment_dual.specs.Problems.{Problem, IsProblem, rows_of}
use Rattle.assignment_dual.specs.Least.{least_pairing, AreAlike}
use Rattle.assignment_dual.proofs.Existing.{least_pairing_is, problem_below}

pub gate_count : (rows : List Row) (xs : List (Option ℕ)) → AllGate rows xs → length xs ≡ length rows
gate_count [] [] h = refl
gate_count [] (x ∷ xs) h = absurd h
gate_count (row ∷ rows) [] h = absurd h
gate_count (row ∷ rows) (x ∷ xs) h = ap suc (gate_count rows xs h.1)

not_both : (x y : Option ℕ) → EntryBefore x y → EntryBefore y x → ⊥
not_both None y h k = h
not_both (Some a) None h k = k
not_both (Some a) (Some b) h k = omega (arith, h, k)

same_list : (xs ys : List (Option ℕ)) → length xs ≡ length ys → NotAfter xs ys → NotAfter ys xs → xs ≡ ys
same_list [] [] l h k = refl
same_list [] (y ∷ ys) l h k = absurd (omega (arith, l))
same_list (x ∷ xs) [] l h k = absurd (omega (arith, l))
same_list (x ∷ xs) (y ∷ ys) l (inl a) (inl b) = absurd (not_both x y a b)
same_list (x ∷ xs) (y ∷ ys) l (inl a) (inr b) = let e = subst (λ z. EntryBefore x z) b.0 a in absurd (not_both x x e e)
same_list (x ∷ xs) (y ∷ ys) l (inr a) (inl b) = let e = subst (λ z. EntryBefore y z) a.0 b in absurd (not_both y y e e)
same_list (x ∷ xs) (y ∷ ys) l (inr a) (inr b) = λ i. a.0 i ∷ same_list xs ys (omega (arith, l)) a.1 b.1 i

pub one_least : (rows : List Row) (xs ys : List (Option ℕ)) → IsLeast rows xs → IsLeast rows ys → xs ≡ ys
one_least rows xs ys a b = both (a.first ys b.pairing) (b.first xs a.pairing)
  where
    long : length xs ≡ length ys
    long = gate_count rows xs a.pairing.gates ∙ sym (gate_count rows ys b.pairing.gates)

    both : ComesFirst rows xs ys → ComesFirst rows ys xs → xs ≡ ys
    both (inl h) (inl k) = absurd (omega (arith, h, k))
    both (inl h) (inr k) = absurd (omega (arith, h, k.0))
    both (inr h) (inl k) = absurd (omega (arith, h.0, k))
    both (inr h) (inr k) = same_list xs ys long h.1 k.1

pub one_of_problem : (p : Problem) (xs : List (Option ℕ)) → IsProblem p → IsLeast (rows_of p) xs → xs ≡ least_pairing p.tracks (rows_of p)
one_of_problem p xs h l = one_least (rows_of p) xs (least_pairing p.tracks (rows_of p)) l (least_pairing_is p.tracks (rows_of p) (problem_below p h))

-- rows that agree, by recursion
abbrev Alike : List Row → List Row → Type 0
Alike [] [] = Unit {0}
Alike [] (other ∷ others) = ⊥
Alike (row ∷ rows) [] = ⊥
Alike (row ∷ rows) (other ∷ others) = ((t : ℕ) → other t ≡ row t) × Alike rows others

alike_of : (rows others : List Row) → length others ≡ length rows → ((plot track : ℕ) → plot < length rows → row_at others plot track ≡ row_at rows plot track) → Alike rows others
alike_of [] [] l f = tt
alike_of [] (other ∷ others) l f = absurd (omega (arith, l))
alike_of (row ∷ rows) [] l f = absurd (omega (arith, l))
alike_of (row ∷ rows) (other ∷ others) l f = (λ t. f 0 t (omega arith), alike_of rows others (omega (arith, l)) (λ plot t h. f (suc plot) t (omega (arith, h))))

back : (rows others : List Row) → Alike rows others → Alike others rows
back [] [] a = tt
back [] (other ∷ others) a = absurd a
back (row ∷ rows) [] a = absurd a
back (row ∷ rows) (other ∷ others) a = (λ t. sym (a.0 t), back rows others a.1)

gates_on : (rows others : List Row) (xs : List (Option ℕ)) → Alike rows others → AllGate rows xs → AllGate others xs
gates_on [] [] xs a g = g
gates_on [] (other ∷ others) xs a g = absurd a
gates_on (row ∷ rows) [] xs a g = absurd a
gates_on (row ∷ rows) (other ∷ others) [] a g = absurd g
gates_on (row ∷ rows) (other ∷ others) (None ∷ xs) a g = (tt, gates_on rows others xs a.1 g.1)
gates_on (row ∷ rows) (other ∷ others) (Some t ∷ xs) a g = (ap is_some (a.0 t) ∙ g.0, gates_on rows others xs a.1 g.1)

same_cost : (rows others : List Row) (xs : List (Option ℕ)) → Alike rows others → cost others xs ≡ cost rows xs
same_cost [] [] xs a = refl
same_cost [] (other ∷ others) xs a = absurd a
same_cost (row ∷ rows) [] xs a = absurd a
same_cost (row ∷ rows) (other ∷ others) [] a = refl
same_cost (row ∷ rows) (other ∷ others) (None ∷ xs) a = omega (arith, same_cost rows others xs a.1)
same_cost (row ∷ rows) (other ∷ others) (Some t ∷ xs) a = omega (arith, ap paired_cost (a.0 t), same_cost rows others xs a.1)

pub alike_least : (rows others : List Row) (xs : List (Option ℕ)) → AreAlike rows others → IsLeast rows xs → IsLeast others xs
alike_least rows others xs h l =
    let a : Alike rows others = alike_of rows others h.count h.each in
    record {
      pairing = record { gates = gates_on rows others xs a l.pairing.gates; once = l.pairing.once };
      first = λ ys p. carry ys (l.first ys (record { gates = gates_on others rows ys (back rows others a) p.gates; once = p.once })) (same_cost rows others xs a) (same_cost rows others ys a);
    }
  where
    carry : (ys : List (Option ℕ)) → ComesFirst rows xs ys → cost others xs ≡ cost rows xs → cost others ys ≡ cost rows ys → ComesFirst others xs ys
    carry ys (inl k) c d = inl (omega (arith, k, c, d))
    carry ys (inr k) c d = inr (c ∙ k.0 ∙ sym d, k.1)
