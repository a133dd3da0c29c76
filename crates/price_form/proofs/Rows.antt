-- The edge between a plot and a track, found among edges that rise, and what a pairing of them costs.
use Rattle.std.proofs.Common.{◌≡◌, ◌≢◌, ℕ, suc, zero, ◌+◌, ◌<◌, ◌≤◌, cond, ◌&&◌, ◌==◌, List, [], ◌∷◌, ◌++◌, Option, Some, None, length, get_or, take, arith, refl, sym, ◌∙◌, subst, inl, inr}
use Rattle.std.proofs.lemmas.Bool.{cases_eq, cond-true, cond-false, and_from, and_left, and_right, eq-eqb, ne_eqb}
use Rattle.std.proofs.lemmas.List.{take_more}
use Rattle.std.proofs.lemmas.List.FromFn.{map-range_with_len_more, get_or-map-range_with_len}
use Rattle.assignment_dual.specs.Pairings.{Row, AllGate, Gates, entry_cost, cost}
use Rattle.assignment_dual.specs.Problems.{Edge, EdgeBefore, edge_at, row_of}
use Rattle.price_form.specs.Checks.{Rises, first_rows, entry_at}

pub before_trans : (a b c : Edge) → EdgeBefore a b → EdgeBefore b c → EdgeBefore a c
before_trans a b c (inl h) (inl k) = inl (omega (arith, h, k))
before_trans a b c (inl h) (inr k) = inl (omega (arith, h, k.0))
before_trans a b c (inr h) (inl k) = inl (omega (arith, h.0, k))
before_trans a b c (inr h) (inr k) = inr (h.0 ∙ k.0, omega (arith, h.1, k.1))

-- what stands before an edge stands before all that the edge stands before
pub before_on : (edges : List Edge) (m : ℕ) (key : Edge) → Rises edges → m < length edges → EdgeBefore (edge_at edges m) key → (i : ℕ) → i < m + 1 → EdgeBefore (edge_at edges i) key
before_on edges m key up lt h i le =
    elim (cases_eq i m) [
      | inl e ↦ subst (λ j. EdgeBefore (edge_at edges j) key) (sym e) h
      | inr ne ↦ before_trans (edge_at edges i) (edge_at edges m) key (up i m (omega (arith, le, ne)) lt) h
    ]

pub after_on : (edges : List Edge) (m : ℕ) (key : Edge) → Rises edges → EdgeBefore key (edge_at edges m) → (i : ℕ) → m ≤ i → i < length edges → EdgeBefore key (edge_at edges i)
after_on edges m key up h i le lt =
    elim (cases_eq i m) [
      | inl e ↦ subst (λ j. EdgeBefore key (edge_at edges j)) (sym e) h
      | inr ne ↦ before_trans key (edge_at edges m) (edge_at edges i) h (up m i (omega (arith, le, ne)) lt)
    ]

-- where neither is less and they aren't one, the edge stands after
pub stands_after : (e : Edge) (plot track : ℕ) → (e.0 < plot → ⊥) → ((e.0 ≡ plot) → e.1 < track → ⊥) → ((e.0 ≡ plot) → e.1 ≢ track) → EdgeBefore (plot, track, 0) e
stands_after e plot track h k l =
    elim (cases_eq e.0 plot) [
      | inl same ↦ inr (sym same, omega (arith, k same, l same))
      | inr ne ↦ inl (omega (arith, h, ne))
    ]

rest_rises : (e : Edge) (es : List Edge) → Rises (e ∷ es) → Rises es
rest_rises e es up i j lt in' = up (suc i) (suc j) (omega (arith, lt)) (omega (arith, in'))

not_this : (e f : Edge) (rest : Option ℕ) → EdgeBefore e f → cond ((e.0 == f.0) && (e.1 == f.1)) (Some e.2) rest ≡ rest
not_this e f rest (inl lt) = cond-false _ _ _ (and_left _ _ (ne_eqb e.0 f.0 (λ q. omega (arith, lt, q))))
not_this e f rest (inr h) = cond-false _ _ _ (and_right _ _ (ne_eqb e.1 f.1 (λ q. omega (arith, h.1, q))))

pub row_is : (edges : List Edge) (i : ℕ) (plot track : ℕ) → Rises edges → i < length edges → (edge_at edges i).0 ≡ plot → (edge_at edges i).1 ≡ track → let found : Option ℕ = Some (edge_at edges i).2 in found ≡ row_of edges plot track
row_is [] i plot track up lt p t = absurd (omega (arith, lt))
row_is (e ∷ es) zero plot track up lt p t = sym (cond-true _ _ _ (and_from _ _ (eq-eqb e.0 plot p) (eq-eqb e.1 track t)))
row_is (e ∷ es) (suc i) plot track up lt p t =
    row_is es i plot track (rest_rises e es up) (omega (arith, lt)) p t
    ∙ sym (subst (λ (q : ℕ). cond ((e.0 == q) && (e.1 == track)) (Some e.2) (row_of es plot track) ≡ row_of es plot track) p (subst (λ (q : ℕ). cond ((e.0 == (edge_at es i).0) && (e.1 == q)) (Some e.2) (row_of es plot track) ≡ row_of es plot track) t (not_this e (edge_at es i) (row_of es plot track) (up zero (suc i) (omega arith) lt))))

pub row_none : (edges : List Edge) (plot track : ℕ) → ((i : ℕ) → i < length edges → (edge_at edges i).0 ≡ plot → (edge_at edges i).1 ≡ track → ⊥) → let none : Option ℕ = None in none ≡ row_of edges plot track
row_none [] plot track h = refl
row_none (e ∷ es) plot track h =
    row_none es plot track (λ i lt. h (suc i) (omega (arith, lt)))
    ∙ sym (elim (cases_eq e.0 plot) [
      | inl p ↦ cond-false _ _ _ (and_right _ _ (ne_eqb e.1 track (h zero (omega arith) p)))
      | inr ne ↦ cond-false _ _ _ (and_left _ _ (ne_eqb e.0 plot ne))
    ])

-- before or after, but not the edge
pub is_not_before : (e : Edge) (plot track : ℕ) → EdgeBefore e (plot, track, 0) → e.0 ≡ plot → e.1 ≡ track → ⊥
is_not_before e plot track (inl lt) p t = omega (arith, lt, p)
is_not_before e plot track (inr h) p t = omega (arith, h.1, t)

pub is_not_after : (e : Edge) (plot track : ℕ) → EdgeBefore (plot, track, 0) e → e.0 ≡ plot → e.1 ≡ track → ⊥
is_not_after e plot track (inl lt) p t = omega (arith, lt, p)
is_not_after e plot track (inr h) p t = omega (arith, h.1, t)

pub rows_more : (edges : List Edge) (n : ℕ) → first_rows edges (n + 1) ≡ first_rows edges n ++ row_of edges n ∷ []
rows_more edges n = map-range_with_len_more (row_of edges) 0 n n (omega arith)

gates_push : (rows : List Row) (xs : List (Option ℕ)) (row : Row) (x : Option ℕ) → AllGate rows xs → Gates row x → AllGate (rows ++ row ∷ []) (xs ++ x ∷ [])
gates_push [] [] row x h g = (g, tt)
gates_push [] (y ∷ ys) row x h g = absurd h
gates_push (r ∷ rows) [] row x h g = absurd h
gates_push (r ∷ rows) (y ∷ ys) row x h g = (h.0, gates_push rows ys row x h.1 g)

cost_push : (rows : List Row) (xs : List (Option ℕ)) (row : Row) (x : Option ℕ) → AllGate rows xs → cost (rows ++ row ∷ []) (xs ++ x ∷ []) ≡ cost rows xs + entry_cost row x
cost_push [] [] row x h = omega arith
cost_push [] (y ∷ ys) row x h = absurd h
cost_push (r ∷ rows) [] row x h = absurd h
cost_push (r ∷ rows) (y ∷ ys) row x h = omega (arith, cost_push rows ys row x h.1)

-- one more plot
pub more_gates : (edges : List Edge) (xs : List (Option ℕ)) (n : ℕ) → n < length xs → AllGate (first_rows edges n) (take n xs) → Gates (row_of edges n) (entry_at xs n)
    → (AllGate (first_rows edges (n + 1)) (take (n + 1) xs)) × (cost (first_rows edges (n + 1)) (take (n + 1) xs) ≡ cost (first_rows edges n) (take n xs) + entry_cost (row_of edges n) (entry_at xs n))
more_gates edges xs n lt h g =
    let rows = rows_more edges n in
    let prefix = take_more xs n None lt in (
      subst (λ ys. AllGate (first_rows edges (n + 1)) ys) (sym prefix) (subst (λ rs. AllGate rs (take n xs ++ entry_at xs n ∷ [])) (sym rows) (gates_push (first_rows edges n) (take n xs) (row_of edges n) (entry_at xs n) h g)),
      (λ j. cost (rows j) (prefix j)) ∙ cost_push (first_rows edges n) (take n xs) (row_of edges n) (entry_at xs n) h,
    )

gates_at : (rows : List Row) (xs : List (Option ℕ)) (i : ℕ) (row : Row) → AllGate rows xs → i < length xs → Gates (get_or rows i row) (get_or xs i None)
gates_at [] [] i row h lt = absurd (omega (arith, lt))
gates_at [] (x ∷ xs) i row h lt = absurd h
gates_at (r ∷ rows) [] i row h lt = absurd h
gates_at (r ∷ rows) (x ∷ xs) zero row h lt = h.0
gates_at (r ∷ rows) (x ∷ xs) (suc i) row h lt = gates_at rows xs i row h.1 (omega (arith, lt))

-- a plot whose track has no edge to it
pub gates_each : (edges : List Edge) (xs : List (Option ℕ)) → AllGate (first_rows edges (length xs)) xs → (i : ℕ) → i < length xs → Gates (row_of edges i) (entry_at xs i)
gates_each edges xs h i lt =
    subst (λ row. Gates row (entry_at xs i)) (get_or-map-range_with_len (row_of edges) 0 (length xs) i i (row_of edges i) lt (omega arith)) (gates_at (first_rows edges (length xs)) xs i (row_of edges i) h lt)
