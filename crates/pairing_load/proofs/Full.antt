-- Full problems are problems.
use Rattle.std.proofs.Common.{◌≡◌, ◌∙◌, ap, sym, subst, inl, inr, ℕ, ◌+◌, ◌*◌, ◌/◌, ◌%◌, ◌<◌, ◌≤◌, List, [], ◌∷◌, ◌++◌, length, get_or, map, arith}
use Rattle.std.specs.List.{range_with_len}
use Rattle.std.proofs.lemmas.Bool.{cases_lt}
use Rattle.std.proofs.lemmas.List.FromFn.{length-map-range_with_len, get_or-map-range_with_len, map-range_with_len_more}
use Rattle.std.proofs.lemmas.Nat.{div-add-mod', div_below, le-div, mod_below}
use Rattle.rand_pcg.specs.Lcg.{Lcg}
use Rattle.assignment_dual.specs.Problems.{Edge, EdgeBefore, IsProblem}
use Rattle.pairing_load.specs.declared.problems.EdgeCosts.{EdgeCosts}
use Rattle.pairing_load.specs.Problems.{after, full_edge, full_problem, next_cost}
use Rattle.pairing_load.proofs.Drawing.{next_cost_small}

in_order : (x y r t i j : ℕ) → x + r ≡ i → y + t ≡ j → x ≡ y → i < j → r < t
in_order x y r t i j a b e h = omega arith

-- edges stand plot by plot, and for each plot track by track
rising_edge : (costs : EdgeCosts) (size : ℕ) (g : Lcg) → 1 ≤ size → (i j : ℕ) → i < j → EdgeBefore (full_edge costs size g i) (full_edge costs size g j)
rising_edge costs size g some i j lt =
    let row : i / size * size ≤ j = omega (arith, div-add-mod' i size) in
    let rows : i / size ≤ j / size = le-div (i / size) j size (omega arith) row in
    elim (cases_lt (i / size) (j / size)) [
      | inl low ↦ inl low
      | inr high ↦
          let same : i / size ≡ j / size = omega arith in
          inr (same, in_order (i / size * size) (j / size * size) (i % size) (j % size) i j (div-add-mod' i size) (div-add-mod' j size) (ap (λ (q : ℕ). q * size) same) lt)
    ]

edge_here : (costs : EdgeCosts) (size : ℕ) (g : Lcg) (n i : ℕ) (d : Edge) → i < n → get_or (map (full_edge costs size g) (range_with_len 0 n)) i d ≡ full_edge costs size g i
edge_here costs size g n i d lt = get_or-map-range_with_len (full_edge costs size g) 0 n i i d lt (omega arith)

pub full_is : (costs : EdgeCosts) (size : ℕ) (g : Lcg) → 1 ≤ size → IsProblem (full_problem costs size g)
unfolding full_problem
full_is costs size g some =
    let n : ℕ = size * size in
    let edges : List Edge = map (full_edge costs size g) (range_with_len 0 n) in
    let long : length edges ≡ n = length-map-range_with_len (full_edge costs size g) 0 n in
    record {
      rising = λ i j lt end.
          let here = edge_here costs size g n i (0, 0, 0) (omega (arith, lt, end, long)) in
          let there = edge_here costs size g n j (0, 0, 0) (omega (arith, end, long)) in
          subst (λ (e : Edge). EdgeBefore e (get_or edges j (0, 0, 0))) (sym here) (subst (λ (e : Edge). EdgeBefore (full_edge costs size g i) e) (sym there) (rising_edge costs size g some i j lt));
      plots = λ k d lt. subst (λ (e : Edge). e.0 < size) (sym (edge_here costs size g n k d (omega (arith, lt, long)))) (div_below k size size (omega arith) (omega (arith, lt, long)));
      tracks = λ k d lt. subst (λ (e : Edge). e.1 < size) (sym (edge_here costs size g n k d (omega (arith, lt, long)))) (mod_below k size (omega arith));
      costs = λ k d lt. subst (λ (e : Edge). e.2 ≤ 4096) (sym (edge_here costs size g n k d (omega (arith, lt, long)))) (next_cost_small costs (after costs k g));
    }

-- one edge more
pub edges_more : (costs : EdgeCosts) (size : ℕ) (g : Lcg) (n : ℕ) {now next : List Edge} {generator : Lcg} {cost : ℕ} → now ≡ map (full_edge costs size g) (range_with_len 0 n) → generator ≡ after costs n g → cost ≡ next_cost costs generator → next ≡ now ++ (n / size, n % size, cost) ∷ []
    → next ≡ map (full_edge costs size g) (range_with_len 0 (n + 1))
edges_more costs size g n {now} {next} {generator} {cost} e drawn is push =
    let c : cost ≡ next_cost costs (after costs n g) = is ∙ ap (next_cost costs) drawn in
    push ∙ (λ j. e j ++ (n / size, n % size, c j) ∷ []) ∙ sym (map-range_with_len_more (full_edge costs size g) 0 n n (omega arith))

-- a problem with just these edges
pub problem_made : (costs : EdgeCosts) (size : ℕ) (g : Lcg) → 1 ≤ size → {edges : List Edge} → edges ≡ map (full_edge costs size g) (range_with_len 0 (size * size)) → IsProblem (record { plots = size; tracks = size; edges = edges })
unfolding full_problem
problem_made costs size g some {edges} e = subst (λ (es : List Edge). IsProblem (record { plots = size; tracks = size; edges = es })) (sym e) (full_is costs size g some)
