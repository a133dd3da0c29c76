-- What is read of the vertices is the answer.
use Rattle.std.proofs.Common.{◌≡◌, ◌≤◌, ◌<◌, ℕ, zero, suc, ◌+◌, ◌*◌, ◌-◌, ℤ, pos, ◌+ℤ◌, ◌-ℤ◌, ◌≤ℤ◌, length, get_or, sum, map, take, drop, List, [], ◌∷◌, Option, Some, None, Bool, true, false, arith, refl, sym, ◌∙◌, ap, subst, length-drop, replicate}
use Rattle.std.specs.List.{All}
use Rattle.std.specs.Prelude.{IfSome, IfOk, Result, Ok, Err}
use Rattle.std.proofs.lemmas.Int.{ints}
use Rattle.std.proofs.lemmas.List.{get_or-drop}
use Rattle.std.proofs.lemmas.List.Elements.{All-from_get_or}
use Rattle.assignment_dual.specs.declared.graph.Graph.{Graph}
use Rattle.trk_base.specs.Limits.{miss_cost}
use Rattle.assignment_dual.specs.Pairings.{Row, Gates, AllGate, IsPairing, IsLeast, cost}
use Rattle.assignment_dual.specs.Problems.{Edge, Problem, IsProblem, edge_at, row_of, rows_of, price_at, total, Proves, IsSolvedBy}
use Rattle.assignment_dual.specs.Vertices.{IsGraph, IsDualFeasible, AreMatched, IsOptimal}
use Rattle.assignment_dual.specs.Search.{unseen}
use Rattle.assignment_dual.specs.Rests.{row_at, IsGate, ShowsRest}
use Rattle.assignment_dual.proofs.Duality.{sum-cons}
use Rattle.assignment_dual.proofs.First.{least_cost}
use Rattle.assignment_dual.proofs.Signed.{total-cons, row_tells, row_at_index, count_rows, length_map}
use Rattle.assignment_dual.proofs.Building.{row_found}
use Rattle.assignment_dual.proofs.Choices.{HasValue, value_of, is_some_of}
use Rattle.assignment_dual.proofs.Value.{unseen-false}
use Rattle.assignment_dual.proofs.Shifts.{false_true}

-- a track's price
abbrev pub v_of : ℕ → ℤ
v_of q = pos q -ℤ pos miss_cost

total_plots : (qs : List ℕ) → total (map pos qs) ≡ pos (sum qs)
total_plots [] = refl
total_plots (q ∷ qs) = omega (arith, ints, total-cons (pos q) (map pos qs), sum-cons q qs, total_plots qs)

total_tracks : (qs : List ℕ) → total (map v_of qs) +ℤ pos (miss_cost * length qs) ≡ pos (sum qs)
total_tracks [] = refl
total_tracks (q ∷ qs) = omega (arith, ints, total-cons (v_of q) (map v_of qs), sum-cons q qs, total_tracks qs)

sum_parts : (k : ℕ) (qs : List ℕ) → sum (take k qs) + sum (drop k qs) ≡ sum qs
sum_parts zero qs = omega arith
sum_parts (suc k) [] = refl
sum_parts (suc k) (q ∷ qs) = omega (arith, sum-cons q (take k qs), sum-cons q qs, sum_parts k qs)

none_gone : (gone : List Bool) → ((v : ℕ) → get_or gone v false ≡ false) → unseen gone ≡ length gone
none_gone [] h = refl
none_gone (true ∷ gone) h = absurd (false_true refl (h 0))
none_gone (false ∷ gone) h = omega (arith, unseen-false gone, none_gone gone (λ v. h (suc v)))

at_map : (f : ℕ → ℤ) (qs : List ℕ) (i : ℕ) → i < length qs → get_or (map f qs) i (pos 0) ≡ f (get_or qs i 0)
at_map f [] i h = absurd (omega arith)
at_map f (q ∷ qs) zero h = refl
at_map f (q ∷ qs) (suc i) h = at_map f qs i (omega arith)

at_drop : (k : ℕ) (qs : List ℕ) (i : ℕ) → get_or (drop k qs) i 0 ≡ get_or qs (k + i) 0
at_drop k qs i = get_or-drop k qs i 0

at_take : (k : ℕ) (qs : List ℕ) (i : ℕ) → i < k → get_or (take k qs) i 0 ≡ get_or qs i 0
at_take zero qs i h = absurd (omega arith)
at_take (suc k) [] i h = refl
at_take (suc k) (q ∷ qs) zero h = refl
at_take (suc k) (q ∷ qs) (suc i) h = at_take k qs i (omega arith)

take_length : (k : ℕ) (qs : List ℕ) → k ≤ length qs → length (take k qs) ≡ k
take_length zero qs h = refl
take_length (suc k) [] h = absurd (omega arith)
take_length (suc k) (q ∷ qs) h = ap suc (take_length k qs (omega arith))

take_whole : (qs : List ℕ) → take (length qs) qs ≡ qs
take_whole [] = refl
take_whole (q ∷ qs) = ap (λ (o : List ℕ). q ∷ o) (take_whole qs)

-- all that is settled, with nobody gone
pub record Settled (p : Problem) (g : Graph) (n : ℕ) (qs ms : List ℕ) (gone : List Bool) : Type 0 where
  pub problem : IsProblem p
  pub graph : IsGraph g n
  pub size : n ≡ p.plots + p.tracks
  pub plots : g.plots ≡ p.plots
  pub resting : IsOptimal g n qs ms gone
  pub count : length gone ≡ n
  pub here : (v : ℕ) → get_or gone v false ≡ false
  pub shows : ShowsRest g n p.tracks gone 0 (rows_of p)

-- all prices together are the least cost and what each track would pay alone
pub settled_value : {p : Problem} {g : Graph} {n : ℕ} {qs ms : List ℕ} {gone : List Bool} → Settled p g n qs ms gone → (m : ℕ) × HasValue (rows_of p) m × (sum qs ≡ m + miss_cost * p.tracks)
settled_value {p} {g} {n} {qs} {ms} {gone} s =
    let v : (m : ℕ) × HasValue (rows_of p) m × (sum qs ≡ m + 4097 * unseen (drop g.plots gone)) = value_of s.graph s.resting s.count s.shows in
    let l : length (drop g.plots gone) ≡ length gone - g.plots = length-drop g.plots gone in
    let u : unseen (drop g.plots gone) ≡ length (drop g.plots gone) = none_gone (drop g.plots gone) (λ i. get_or-drop g.plots gone i false ∙ s.here (g.plots + i)) in
    (v.0, v.1, omega (arith, v.2, u, l, s.count, s.size, s.plots))

pub least_value : {rows : List Row} {m : ℕ} {xs : List (Option ℕ)} → HasValue rows m → IsLeast rows xs → cost rows xs ≡ m
least_value v l = omega (arith, v.least _ l.pairing, least_cost l v.entries v.pairing, v.equal)

zero_plus : (i : ℕ) → 0 + i ≡ i
zero_plus i = omega arith

edge_below : {p : Problem} {g : Graph} {n : ℕ} {qs ms : List ℕ} {gone : List Bool} {i t c k : ℕ} → Settled p g n qs ms gone → IsGate g i t c k → i < n → get_or qs i 0 + get_or qs (g.plots + t) 0 ≤ c + miss_cost
edge_below {p} {g} {n} {qs} {ms} {gone} {i} {t} {c} {k} s a h =
    omega (arith, s.resting.priced.arcs i k h a.arc, ap (λ (o : ℕ). get_or qs o 0) a.to, a.cost)

pub answer_proves : {p : Problem} {g : Graph} {n : ℕ} {qs ms : List ℕ} {gone : List Bool} {xs : List (Option ℕ)} → Settled p g n qs ms gone → IsLeast (rows_of p) xs → Proves p xs (map pos (take p.plots qs)) (map v_of (drop p.plots qs))
answer_proves {p} {g} {n} {qs} {ms} {gone} {xs} s l =
    let v : (m : ℕ) × HasValue (rows_of p) m × (sum qs ≡ m + miss_cost * p.tracks) = settled_value s in
    let ql : length qs ≡ p.plots + p.tracks = s.resting.priced.count ∙ s.size in
    let lt : length (take p.plots qs) ≡ p.plots = take_length p.plots qs (omega (arith, ql)) in
    let ld : length (drop p.plots qs) ≡ p.tracks = omega (arith, length-drop p.plots qs, ql) in
    let us : List ℤ = map pos (take p.plots qs) in
    let vs : List ℤ = map v_of (drop p.plots qs) in
    let u_at : (i : ℕ) → i < p.plots → price_at us i ≡ pos (get_or qs i 0) = λ i h. at_map pos (take p.plots qs) i (omega (arith, lt, h)) ∙ ap pos (at_take p.plots qs i h) in
    let v_at : (t : ℕ) → t < p.tracks → price_at vs t ≡ v_of (get_or qs (p.plots + t) 0) = λ t h. at_map v_of (drop p.plots qs) t (omega (arith, ld, h)) ∙ ap v_of (at_drop p.plots qs t) in
    let lu : length us ≡ p.plots = length_map pos (take p.plots qs) ∙ lt in
    let lv : length vs ≡ p.tracks = length_map v_of (drop p.plots qs) ∙ ld in
    record {
      pairing = l.pairing;
      plot_prices = lu;
      track_prices = lv;
      below_miss = All-from_get_or (λ u. u ≤ℤ pos miss_cost) us (pos 0) (λ i h. omega (arith, ints, u_at i (omega (arith, h, lu)), s.resting.priced.alone i));
      below_zero = All-from_get_or (λ u. u ≤ℤ pos 0) vs (pos 0) (λ t h. omega (arith, ints, v_at t (omega (arith, h, lv)), s.resting.priced.alone (p.plots + t)));
      below_cost = All-from_get_or (λ (e : Edge). (price_at us e.0 +ℤ price_at vs e.1) ≤ℤ pos e.2) p.edges (0, 0, 0) (λ j h.
          let e : Edge = edge_at p.edges j in
          let ep : e.0 < p.plots = s.problem.plots j (0, 0, 0) h in
          let et : e.1 < p.tracks = s.problem.tracks j (0, 0, 0) h in
          let row : row_at (rows_of p) e.0 ≡ row_of p.edges e.0 = row_at_index p e.0 ep in
          let c : row_at (rows_of p) e.0 e.1 ≡ Some e.2 = ap (λ (r : Row). r e.1) row ∙ row_found p.edges j s.problem.rising h in
          let k : (get_or gone (g.plots + e.1) false ≡ false) × ((k : ℕ) × IsGate g (0 + e.0) e.1 e.2 k) = s.shows.has e.0 e.1 e.2 (omega (arith, ep, s.plots)) c in
          let b : get_or qs (0 + e.0) 0 + get_or qs (g.plots + e.1) 0 ≤ e.2 + miss_cost = edge_below s k.1.1 (omega (arith, ep, s.size)) in
          let z : get_or qs (0 + e.0) 0 ≡ get_or qs e.0 0 = ap (λ (o : ℕ). get_or qs o 0) (zero_plus e.0) in
          let y : get_or qs (g.plots + e.1) 0 ≡ get_or qs (p.plots + e.1) 0 = ap (λ (o : ℕ). get_or qs (o + e.1) 0) s.plots in
          omega (arith, ints, u_at e.0 ep, v_at e.1 et, b, z, y));
      equal = omega (arith, ints, total_plots (take p.plots qs), total_tracks (drop p.plots qs), sum_parts p.plots qs, v.2, least_value v.1 l, ld);
    }

gates_at : (rows : List Row) (xs : List (Option ℕ)) (i : ℕ) → AllGate rows xs → i < length xs → Gates (row_at rows i) (get_or xs i None)
gates_at [] [] i g h = absurd (omega arith)
gates_at [] (x ∷ xs) i g h = absurd g
gates_at (row ∷ rows) [] i g h = absurd g
gates_at (row ∷ rows) (x ∷ xs) zero g h = g.0
gates_at (row ∷ rows) (x ∷ xs) (suc i) g h = gates_at rows xs i g.1 (omega arith)

gates_count : (rows : List Row) (xs : List (Option ℕ)) → AllGate rows xs → length xs ≡ length rows
gates_count [] [] g = refl
gates_count [] (x ∷ xs) g = absurd g
gates_count (row ∷ rows) [] g = absurd g
gates_count (row ∷ rows) (x ∷ xs) g = ap suc (gates_count rows xs g.1)

track_named : (p : Problem) → IsProblem p → (i : ℕ) (x : Option ℕ) → Gates (row_of p.edges i) x → IfSome x (λ t. t < p.tracks)
track_named p h i None g = tt
track_named p h i (Some t) g =
    let c : (c : ℕ) × (row_of p.edges i t ≡ Some c) = is_some_of (row_of p.edges i t) g in
    row_tells (λ a b d. b < p.tracks) p.edges i t c.0 (λ j l. h.tracks j (0, 0, 0) l) c.1

-- each track that is named is one of the problem's
pub tracks_named : {p : Problem} {xs : List (Option ℕ)} → IsProblem p → IsPairing (rows_of p) xs → All (λ x. IfSome x (λ t. t < p.tracks)) xs
tracks_named {p} {xs} h q = All-from_get_or (λ x. IfSome x (λ t. t < p.tracks)) xs None (λ i l.
    let n : i < p.plots = omega (arith, l, gates_count (rows_of p) xs q.gates, count_rows p) in
    track_named p h i (get_or xs i None) (subst (λ (r : Row). Gates r (get_or xs i None)) (row_at_index p i n) (gates_at (rows_of p) xs i q.gates l)))

pub take_rest : (k : ℕ) (qs : List ℕ) → take (length qs - k) (drop k qs) ≡ drop k qs
take_rest k qs = ap (λ (o : ℕ). take o (drop k qs)) (sym (length-drop k qs)) ∙ take_whole (drop k qs)

pub all_resting : {g : Graph} {n : ℕ} {qs ms : List ℕ} {gone : List Bool} → IsDualFeasible g n qs → AreMatched g n qs ms → ((v : ℕ) → v < n → get_or ms v 0 ≡ v → get_or qs v 0 ≡ miss_cost) → ((v : ℕ) → get_or gone v false ≡ false) → IsOptimal g n qs ms gone
all_resting pr am f z = record { priced = pr; mates = am; out = λ v h k. absurd (false_true k (z v)); full = λ v h k e. f v h e }

pub answered : {g : Graph} {n : ℕ} {qs ms : List ℕ} {gone : List Bool} {xs : List (Option ℕ)} {us vs : List ℤ} {c : ℤ} → IsGraph g n → IsOptimal g n qs ms gone → length gone ≡ n → ((v : ℕ) → get_or gone v false ≡ false)
    → ((tracks : ℕ) (rows : List Row) → ShowsRest g n tracks gone 0 rows → IsLeast rows xs) → us ≡ map pos (take g.plots qs) → vs ≡ map v_of (drop g.plots qs) → c ≡ pos (sum qs) -ℤ pos (miss_cost * (n - g.plots))
    → (p : Problem) → IsProblem p → g.plots ≡ p.plots → n ≡ p.plots + p.tracks → ShowsRest g n p.tracks gone 0 (rows_of p) → IsSolvedBy p xs us vs c
answered {g} {n} {qs} {ms} {gone} {xs} {us} {vs} {c} gr r l z le ue ve ce p h q e sh =
    let s : Settled p g n qs ms gone = record { problem = h; graph = gr; size = e; plots = q; resting = r; count = l; here = z; shows = sh } in
    let least : IsLeast (rows_of p) xs = le p.tracks (rows_of p) sh in
    let v : (m : ℕ) × HasValue (rows_of p) m × (sum qs ≡ m + miss_cost * p.tracks) = settled_value s in
    let t : n - g.plots ≡ p.tracks = omega (arith, e, q) in
    let us' : us ≡ map pos (take p.plots qs) = ue ∙ ap (λ (o : ℕ). map pos (take o qs)) q in
    let vs' : vs ≡ map v_of (drop p.plots qs) = ve ∙ ap (λ (o : ℕ). map v_of (drop o qs)) q in
    record {
      least = least;
      worth = omega (arith, ints, ce, ap (λ (o : ℕ). miss_cost * o) t, v.2, least_value v.1 least);
      proves = subst (λ (o : List ℤ). Proves p xs o vs) (sym us') (subst (λ (o : List ℤ). Proves p xs (map pos (take p.plots qs)) o) (sym vs') (answer_proves s least));
      tracks = tracks_named h least.pairing;
    }

pub ok_then : {A E : Type 0} {P Q : A → Type 0} (r : Result A E) → ((a : A) → P a → Q a) → IfOk r P → IfOk r Q
ok_then (Ok a) f h = f a h
ok_then (Err e) f h = h

none_true : (n v : ℕ) → get_or (replicate n false) v false ≡ false
none_true zero v = refl
none_true (suc n) zero = refl
none_true (suc n) (suc v) = none_true n v

pub all_false : {xs : List Bool} (n : ℕ) → xs ≡ replicate n false → (v : ℕ) → get_or xs v false ≡ false
all_false {xs} n e v = ap (λ (o : List Bool). get_or o v false) e ∙ none_true n v
