-- The first pairing is found entry by entry.
use Rattle.std.proofs.Common.{◌≡◌, ◌≢◌, ◌≤◌, ◌<◌, ◌⊎◌, inl, inr, ℕ, ◌+◌, List, [], ◌∷◌, Option, Some, None, is_some, true, false, Bool, cond, arith, refl, sym, ◌∙◌, ap, subst, eq-eqb}
use Rattle.std.proofs.lemmas.Bool.{cases_order, ne_eqb}
use Rattle.assignment_dual.specs.Pairings.{Row, paired_cost, entry_cost, Gates, AllGate, Misses, IsPairing, cost, EntryBefore, ComesFirst, IsLeast}
use Rattle.assignment_dual.specs.First.{without, rest, IsFirstChoice}

-- a gate that isn't the taken track is as before
without_other : (s : ℕ) (row : Row) (t : ℕ) → t ≢ s → without (Some s) row t ≡ row t
without_other s row t d = ap (λ (b : Bool). cond b None (row t)) (ne_eqb t s d)

without_taken : (s : ℕ) (row : Row) (t : ℕ) → t ≡ s → without (Some s) row t ≡ None
without_taken s row t e = ap (λ (b : Bool). cond b None (row t)) (eq-eqb t s e)

rest_gates : (s : ℕ) (rows : List Row) (ys : List (Option ℕ)) → Misses s ys → AllGate rows ys → AllGate (rest (Some s) rows) ys
rest_gates s [] [] m g = tt
rest_gates s [] (y ∷ ys) m g = absurd g
rest_gates s (row ∷ rows) [] m g = absurd g
rest_gates s (row ∷ rows) (None ∷ ys) m g = (tt, rest_gates s rows ys m.1 g.1)
rest_gates s (row ∷ rows) (Some t ∷ ys) m g = (ap is_some (without_other s row t (λ e. m.0 (ap Some e))) ∙ g.0, rest_gates s rows ys m.1 g.1)

rest_cost : (s : ℕ) (rows : List Row) (ys : List (Option ℕ)) → Misses s ys → cost (rest (Some s) rows) ys ≡ cost rows ys
rest_cost s [] ys m = refl
rest_cost s (row ∷ rows) [] m = refl
rest_cost s (row ∷ rows) (None ∷ ys) m = omega (arith, rest_cost s rows ys m.1)
rest_cost s (row ∷ rows) (Some t ∷ ys) m = omega (arith, ap paired_cost (without_other s row t (λ e. m.0 (ap Some e))), rest_cost s rows ys m.1)

back_gates : (s : ℕ) (rows : List Row) (ys : List (Option ℕ)) → AllGate (rest (Some s) rows) ys → AllGate rows ys × Misses s ys
back_gates s [] [] g = (tt, tt)
back_gates s [] (y ∷ ys) g = absurd g
back_gates s (row ∷ rows) [] g = absurd g
back_gates s (row ∷ rows) (None ∷ ys) g = ((tt, (back_gates s rows ys g.1).0), ((λ e. cc), (back_gates s rows ys g.1).1))
back_gates s (row ∷ rows) (Some t ∷ ys) g =
    let d : t ≢ s = λ e. absurd (let z : is_some (without (Some s) row t) ≡ false = ap is_some (without_taken s row t e) in let y : is_some (without (Some s) row t) ≡ true = g.0 in cc) in
    ((sym (ap is_some (without_other s row t d)) ∙ g.0, (back_gates s rows ys g.1).0), ((λ e. d (cc)), (back_gates s rows ys g.1).1))

pub rest_none : (rows : List Row) → rest None rows ≡ rows
rest_none [] = refl
rest_none (row ∷ rows) = ap (λ (r : List Row). row ∷ r) (rest_none rows)

-- the rest of a pairing pairs the rest
pub tail_pairs : (row : Row) (rows : List Row) (x : Option ℕ) (ys : List (Option ℕ)) → IsPairing (row ∷ rows) (x ∷ ys) → IsPairing (rest x rows) ys × (cost (rest x rows) ys ≡ cost rows ys)
tail_pairs row rows None ys p = (record { gates = subst (λ (r : List Row). AllGate r ys) (sym (rest_none rows)) p.gates.1; once = p.once }, ap (λ (r : List Row). cost r ys) (rest_none rows))
tail_pairs row rows (Some s) ys p = (record { gates = rest_gates s rows ys p.once.0 p.gates.1; once = p.once.1 }, rest_cost s rows ys p.once.0)

pub tail_back : (row : Row) (rows : List Row) (x : Option ℕ) (ys : List (Option ℕ)) → Gates row x → IsPairing (rest x rows) ys → IsPairing (row ∷ rows) (x ∷ ys) × (cost (rest x rows) ys ≡ cost rows ys)
tail_back row rows None ys g p = (record { gates = (tt, subst (λ (r : List Row). AllGate r ys) (rest_none rows) p.gates); once = p.once }, ap (λ (r : List Row). cost r ys) (rest_none rows))
tail_back row rows (Some s) ys g p =
    let b : AllGate rows ys × Misses s ys = back_gates s rows ys p.gates in
    (record { gates = (g, b.0); once = (b.1, p.once) }, rest_cost s rows ys b.1)

pub le_cases : (a b : ℕ) → a ≤ b → (a < b) ⊎ (a ≡ b)
le_cases a b h = elim (cases_order a b) [ inl e ↦ inr e | inr o ↦ elim o [ inl l ↦ inl l | inr g ↦ absurd (omega (arith, h, g)) ] ]

entry_order : (x y : Option ℕ) → EntryBefore x y ⊎ ((x ≡ y) ⊎ EntryBefore y x)
entry_order None None = inr (inl refl)
entry_order None (Some t) = inr (inr tt)
entry_order (Some s) None = inl tt
entry_order (Some s) (Some t) = elim (cases_order s t) [ inl e ↦ inr (inl (ap Some e)) | inr h ↦ elim h [ inl a ↦ inl a | inr b ↦ inr (inr b) ] ]

pub least_cost : {rows : List Row} {xs : List (Option ℕ)} → IsLeast rows xs → (ys : List (Option ℕ)) → IsPairing rows ys → cost rows xs ≤ cost rows ys
least_cost l ys p = elim (l.first ys p) [ inl h ↦ omega (arith, h) | inr h ↦ omega (arith, h.0) ]

against : (row : Row) (rows : List Row) (x : Option ℕ) (n : ℕ) (xs ys : List (Option ℕ)) → IsFirstChoice row rows x n → IsLeast (rest x rows) xs → IsPairing (row ∷ rows) ys
    → entry_cost row x + cost rows xs ≡ n → ComesFirst (row ∷ rows) (x ∷ xs) ys
against row rows x n xs [] f l p e = absurd p.gates
against row rows x n xs (y ∷ ys) f l p e =
    let t : IsPairing (rest y rows) ys × (cost (rest y rows) ys ≡ cost rows ys) = tail_pairs row rows y ys p in
    let le : n ≤ entry_cost row y + cost rows ys = f.least (y ∷ ys) p in
    let b : IsPairing (row ∷ rows) (x ∷ xs) × (cost (rest x rows) xs ≡ cost rows xs) = tail_back row rows x xs f.gates l.pairing in
    elim (entry_order x y) [
      | inl h ↦ elim (le_cases n (entry_cost row y + cost rows ys) le) [ inl j ↦ inl (omega (arith, e, j)) | inr j ↦ inr (e ∙ j, inl h) ]
      | inr o ↦ elim o [
        | inl q ↦ elim (l.first ys (subst (λ (z : Option ℕ). IsPairing (rest z rows) ys) (sym q) t.0)) [
          | inl j ↦ inl (let a : cost (rest x rows) ys ≡ cost rows ys = ap (λ (z : Option ℕ). cost (rest z rows) ys) q ∙ t.1 in let d : entry_cost row x ≡ entry_cost row y = ap (entry_cost row) q in omega (arith, j, b.1))
          | inr j ↦ inr ((let a : cost (rest x rows) ys ≡ cost rows ys = ap (λ (z : Option ℕ). cost (rest z rows) ys) q ∙ t.1 in let d : entry_cost row x ≡ entry_cost row y = ap (entry_cost row) q in omega (arith, j.0, b.1)), inr (q, j.1))
        ]
        | inr h ↦ inl (omega (arith, e, t.1, f.earlier y p.gates.0 h ys t.0))
      ]
    ]

-- the first choice and the first pairing of the rest are the first pairing
pub first_choice : (row : Row) (rows : List Row) (x : Option ℕ) (n : ℕ) (xs : List (Option ℕ)) → IsFirstChoice row rows x n → IsLeast (rest x rows) xs → IsLeast (row ∷ rows) (x ∷ xs)
first_choice row rows x n xs f l =
    let b : IsPairing (row ∷ rows) (x ∷ xs) × (cost (rest x rows) xs ≡ cost rows xs) = tail_back row rows x xs f.gates l.pairing in
    let e : entry_cost row x + cost (rest x rows) xs ≡ n = f.reached xs l.pairing (least_cost l) in
    record {
      pairing = b.0;
      first = λ ys p. against row rows x n xs ys f l p (omega (arith, e, b.1));
    }
