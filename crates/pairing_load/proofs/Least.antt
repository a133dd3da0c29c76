-- Least costs, and their sums.
use Rattle.std.proofs.Common.{◌≡◌, ◌∙◌, ap, sym, refl, subst, inl, inr, ℕ, ◌+◌, ◌*◌, ◌≤◌, List, [], ◌∷◌, ◌++◌, Option, None, length, get_or, map, arith, length-append, add-mul, one-mul}
use Rattle.std.proofs.lemmas.Bool.{cases_lt}
use Rattle.std.proofs.lemmas.List.{get_or_append_left, get_or_push}
use Rattle.std.proofs.lemmas.List.Sums.{sum_by_push}
use Rattle.std.proofs.lemmas.List.FromFn.{length-map-range_with_len}
use Rattle.rand_pcg.specs.Lcg.{Lcg}
use Rattle.assignment_dual.specs.Pairings.{Row, AllGate, Once, IsLeast, cost}
use Rattle.assignment_dual.specs.Problems.{Problem, row_of, rows_of}
use Rattle.pairing_load.specs.declared.problems.EdgeCosts.{EdgeCosts}
use Rattle.pairing_load.specs.Problems.{after, full_problem, generator_of, problem}
use Rattle.pairing_load.proofs.Drawing.{after_after}
use Rattle.pairing_load.specs.Totals.{IsLeastCost, IsCostSum}

-- no plot gets a track
abbrev nobody : List Row → List (Option ℕ)
nobody rows = map (λ row. None) rows

nobody_gates : (rows : List Row) → AllGate rows (nobody rows)
nobody_gates [] = tt
nobody_gates (row ∷ rows) = (tt, nobody_gates rows)

nobody_once : (rows : List Row) → Once (nobody rows)
nobody_once [] = tt
nobody_once (row ∷ rows) = nobody_once rows

nobody_costs : (rows : List Row) → cost rows (nobody rows) ≡ 4097 * length rows
nobody_costs [] = refl
nobody_costs (row ∷ rows) = omega (arith, nobody_costs rows)

-- a least pairing costs no more than that
pub least_within : (rows : List Row) (xs : List (Option ℕ)) → IsLeast rows xs → cost rows xs ≤ 4097 * length rows
least_within rows xs h =
    elim (h.first (nobody rows) (record { gates = nobody_gates rows; once = nobody_once rows })) [
      | inl less ↦ omega (arith, less, nobody_costs rows)
      | inr same ↦ omega (arith, same.0, nobody_costs rows)
    ]

-- so many plots and tracks
full_size : (costs : EdgeCosts) (size : ℕ) (g : Lcg) → length (rows_of (full_problem costs size g)) ≡ size
unfolding full_problem
full_size costs size g = length-map-range_with_len (row_of (full_problem costs size g).edges) 0 size

pub least_small : (costs : EdgeCosts) (size : ℕ) (g : Lcg) (p : Problem) (xs : List (Option ℕ)) → size ≤ 1000 → p ≡ full_problem costs size g → IsLeast (rows_of p) xs → cost (rows_of p) xs ≤ 4097 * 1000
least_small costs size g p xs few e h = omega (arith, few, least_within (rows_of p) xs h, ap (λ (q : Problem). length (rows_of q)) e, full_size costs size g)

pub total_none : (costs : EdgeCosts) (size seed : ℕ) → IsCostSum costs size seed 0 0
total_none costs size seed = record { each = []; count_is = refl; least = λ k lt. absurd (omega (arith, lt)); total_is = refl }

-- one problem more
pub total_more : (costs : EdgeCosts) (size seed n total c : ℕ) → IsCostSum costs size seed n total → IsLeastCost (problem costs size seed n) c → IsCostSum costs size seed (n + 1) (total + c)
total_more costs size seed n total c h least =
    let here : get_or (h.each ++ c ∷ []) n 0 ≡ c = get_or_push h.each c 0 n h.count_is in
    record {
      each = h.each ++ c ∷ [];
      count_is = omega (arith, h.count_is, length-append h.each (c ∷ []));
      least = λ k lt. elim (cases_lt k n) [
        | inl low ↦ subst (IsLeastCost (problem costs size seed k)) (sym (get_or_append_left h.each (c ∷ []) 0 k (omega (arith, low, h.count_is)))) (h.least k low)
        | inr high ↦
            let same : n ≡ k = omega (arith, high, lt) in
            subst (λ (i : ℕ). IsLeastCost (problem costs size seed i) (get_or (h.each ++ c ∷ []) i 0)) same (subst (IsLeastCost (problem costs size seed n)) (sym here) least)
      ];
      total_is = ap (λ (t : ℕ). t + c) h.total_is ∙ sym (sum_by_push (λ (x : ℕ). x) h.each c);
    }

pub least_of : (costs : EdgeCosts) (size : ℕ) (g : Lcg) (p : Problem) (xs : List (Option ℕ)) (c : ℕ) → p ≡ full_problem costs size g → IsLeast (rows_of p) xs → c ≡ cost (rows_of p) xs → IsLeastCost (full_problem costs size g) c
least_of costs size g p xs c e least worth = subst (λ (q : Problem). IsLeastCost q c) e (record { pairing = xs; least = least; worth = worth })

-- the generator after one problem more
next_row : (n s : ℕ) → n * s + s ≡ (n + 1) * s
next_row n s = sym (add-mul n 1 s ∙ ap (λ (t : ℕ). n * s + t) (one-mul s))

pub after_more : (costs : EdgeCosts) (size seed n : ℕ) {generator generator' : Lcg} → generator ≡ after costs (n * (size * size)) (generator_of seed) → generator' ≡ after costs (size * size) generator → generator' ≡ after costs ((n + 1) * (size * size)) (generator_of seed)
after_more costs size seed n {generator} {generator'} h e =
    e ∙ ap (after costs (size * size)) h ∙ after_after costs (n * (size * size)) (size * size) (generator_of seed) ∙ ap (λ (k : ℕ). after costs k (generator_of seed)) (next_row n (size * size))

pub least_at : (costs : EdgeCosts) (size seed n c : ℕ) {generator : Lcg} → generator ≡ after costs (n * (size * size)) (generator_of seed) → IsLeastCost (full_problem costs size generator) c → IsLeastCost (problem costs size seed n) c
least_at costs size seed n c {generator} e h = subst (λ (g : Lcg). IsLeastCost (full_problem costs size g) c) e h
