-- Prices with a sign, and the same without.
use Rattle.std.proofs.Common.{◌≡◌, ◌≤◌, ◌<◌, inl, inr, ℕ, zero, suc, ◌+◌, ◌==◌, ◌&&◌, List, [], ◌∷◌, Bool, cond, length, Option, Some, None, arith, refl, sym, ◌∙◌, ap, subst, sum, get_or, map, ℤ, pos, negsuc, ◌+ℤ◌, ◌≤ℤ◌, fold}
use Rattle.std.proofs.lemmas.Int.{ints}
use Rattle.std.proofs.lemmas.List.FromFn.{length-map-range_with_len, get_or-map-range_with_len}
use Rattle.std.proofs.lemmas.Bool.{cases_eq, eq-eqb, ne_eqb}
use Rattle.trk_base.specs.Limits.{miss_cost}
use Rattle.assignment_dual.specs.Pairings.{Row, IsPairing, cost}
use Rattle.assignment_dual.specs.Problems.{Edge, Problem, row_of, rows_of, price_at, total, Proves}
use Rattle.assignment_dual.proofs.Duality.{RowFeasible, Feasible, weak, sum-cons}

pub total_from : (a : ℤ) (xs : List ℤ) → fold ◌+ℤ◌ a xs ≡ a +ℤ total xs
total_from a [] = omega (arith, ints)
total_from a (x ∷ xs) = omega (arith, ints, total_from (a +ℤ x) xs, total_from (pos 0 +ℤ x) xs)

pub total-cons : (x : ℤ) (xs : List ℤ) → total (x ∷ xs) ≡ x +ℤ total xs
total-cons x xs = omega (arith, ints, total_from (pos 0 +ℤ x) xs)

abbrev pub above : ℤ → ℕ
above (pos n) = n
above (negsuc n) = 0

abbrev pub below : ℤ → ℕ
below (pos n) = 0
below (negsuc n) = suc n

above_most : (x : ℤ) → x ≤ℤ pos (above x)
above_most (pos n) = omega (arith, ints)
above_most (negsuc n) = omega (arith, ints)

pub total_above : (us : List ℤ) → total us ≤ℤ pos (sum (map above us))
total_above [] = omega (arith, ints)
total_above (u ∷ us) = omega (arith, ints, total-cons u us, sum-cons (above u) (map above us), above_most u, total_above us)

below_at : (v : ℤ) → v ≤ℤ pos 0 → v +ℤ pos (below v) ≡ pos 0
below_at (pos n) h = omega (arith, ints)
below_at (negsuc n) h = omega (arith, ints)

pub total_below : (vs : List ℤ) → ((t : ℕ) → t < length vs → price_at vs t ≤ℤ pos 0) → total vs +ℤ pos (sum (map below vs)) ≡ pos 0
total_below [] h = refl
total_below (v ∷ vs) h =
    omega (arith, ints, total-cons v vs, sum-cons (below v) (map below vs), below_at v (h 0 (omega arith)), total_below vs (λ t k. h (suc t) (omega (arith, k))))

pub feasible_from : (rows : List Row) (us ws : List ℕ) → length rows ≡ length us → ((i : ℕ) → i < length rows → RowFeasible (get_or rows i (λ t. None)) (get_or us i 0) ws) → Feasible rows us ws
feasible_from [] [] ws l f = tt
feasible_from [] (x ∷ xs) ws l f = absurd (omega arith)
feasible_from (r ∷ rows) [] ws l f = absurd (omega arith)
feasible_from (r ∷ rows) (u ∷ us) ws l f = (f 0 (omega arith), feasible_from rows us ws (omega arith) (λ i h. f (suc i) (omega (arith, h))))

-- what holds of each edge holds of what a row tells
pub row_tells : (P : ℕ → ℕ → ℕ → Type 0) (edges : List Edge) (plot track c : ℕ) → ((i : ℕ) → i < length edges → let e = get_or edges i (0, 0, 0) in P e.0 e.1 e.2)
    → row_of edges plot track ≡ Some c → P plot track c
row_tells P [] plot track c h e = absurd (cc)
row_tells P (e ∷ edges) plot track c h q = elim (cases_eq e.0 plot) [
  | inl a ↦ elim (cases_eq e.1 track) [
    | inl b ↦
        let z : row_of (e ∷ edges) plot track ≡ Some e.2 = ap (λ (o : Bool). cond (o && (e.1 == track)) (Some e.2) (row_of edges plot track)) (eq-eqb e.0 plot a) ∙ ap (λ (o : Bool). cond o (Some e.2) (row_of edges plot track)) (eq-eqb e.1 track b) in
        let k : e.2 ≡ c = cc in
        subst (λ (i : ℕ). P i track c) a (subst (λ (i : ℕ). P e.0 i c) b (subst (P e.0 e.1) k (h 0 (omega arith))))
    | inr b ↦
        let z : row_of (e ∷ edges) plot track ≡ row_of edges plot track = ap (λ (o : Bool). cond (o && (e.1 == track)) (Some e.2) (row_of edges plot track)) (eq-eqb e.0 plot a) ∙ ap (λ (o : Bool). cond o (Some e.2) (row_of edges plot track)) (ne_eqb e.1 track b) in
        row_tells P edges plot track c (λ i l. h (suc i) (omega (arith, l))) (sym z ∙ q)
  ]
  | inr a ↦
      let z : row_of (e ∷ edges) plot track ≡ row_of edges plot track = ap (λ (o : Bool). cond (o && (e.1 == track)) (Some e.2) (row_of edges plot track)) (ne_eqb e.0 plot a) in
      row_tells P edges plot track c (λ i l. h (suc i) (omega (arith, l))) (sym z ∙ q)
]

pub row_at_index : (p : Problem) (i : ℕ) → i < p.plots → get_or (rows_of p) i (λ t. None) ≡ row_of p.edges i
row_at_index p i h = get_or-map-range_with_len (row_of p.edges) 0 p.plots i i (λ t. None) h (omega arith)

pub count_rows : (p : Problem) → length (rows_of p) ≡ p.plots
count_rows p = length-map-range_with_len (row_of p.edges) 0 p.plots

above_at : (us : List ℤ) (i : ℕ) → get_or (map above us) i 0 ≡ above (price_at us i)
above_at [] i = refl
above_at (u ∷ us) zero = refl
above_at (u ∷ us) (suc i) = above_at us i

below_of : (vs : List ℤ) (i : ℕ) → get_or (map below vs) i 0 ≡ below (price_at vs i)
below_of [] i = refl
below_of (v ∷ vs) zero = refl
below_of (v ∷ vs) (suc i) = below_of vs i

above_within : (u : ℤ) (n : ℕ) → u ≤ℤ pos n → above u ≤ n
above_within (pos m) n h = omega (arith, ints, h)
above_within (negsuc m) n h = omega arith

above_sum : (u v : ℤ) (c : ℕ) → (u +ℤ v) ≤ℤ pos c → above u ≤ c + below v
above_sum (pos m) (pos n) c h = omega (arith, ints, h)
above_sum (pos m) (negsuc n) c h = omega (arith, ints, h)
above_sum (negsuc m) v c h = omega arith

pub length_map : {A B : Type 0} (f : A → B) (xs : List A) → length (map f xs) ≡ length xs
length_map f [] = refl
length_map f (x ∷ xs) = ap suc (length_map f xs)

-- what proves with signs is feasible without
pub feasible_signed : {p : Problem} {xs : List (Option ℕ)} {us vs : List ℤ} → Proves p xs us vs → Feasible (rows_of p) (map above us) (map below vs)
feasible_signed {p} {xs} {us} {vs} h = feasible_from (rows_of p) (map above us) (map below vs) (count_rows p ∙ sym (length_map above us ∙ h.plot_prices)) (λ i l.
    let k : i < p.plots = subst (λ (n : ℕ). i < n) (count_rows p) l in
    let il : i < length us = omega (arith, k, h.plot_prices) in
    let row : get_or (rows_of p) i (λ t. None) ≡ row_of p.edges i = row_at_index p i k in
    subst (λ (r : Row). RowFeasible r (get_or (map above us) i 0) (map below vs)) (sym row) (
      subst (λ (n : ℕ). n ≤ miss_cost) (sym (above_at us i)) (above_within (price_at us i) miss_cost (h.below_miss i (pos 0) il)),
      λ t c e.
          let m : (price_at us i +ℤ price_at vs t) ≤ℤ pos c = row_tells (λ a b d. (price_at us a +ℤ price_at vs b) ≤ℤ pos d) p.edges i t c (λ j q. h.below_cost j (0, 0, 0) q) e in
          omega (arith, above_at us i, below_of vs t, above_sum (price_at us i) (price_at vs t) c m),
    ))

pub no_cheaper_signed : {p : Problem} {xs ys : List (Option ℕ)} {us vs : List ℤ} → Proves p xs us vs → IsPairing (rows_of p) ys → cost (rows_of p) xs ≤ cost (rows_of p) ys
no_cheaper_signed {p} {xs} {ys} {us} {vs} h k =
    let w : sum (map above us) ≤ cost (rows_of p) ys + sum (map below vs) = weak (rows_of p) (map above us) (map below vs) (feasible_signed h) ys k in
    omega (arith, ints, w, h.equal, total_above us, total_below vs (λ t l. h.below_zero t (pos 0) l))
