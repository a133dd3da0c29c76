-- The problem of a batch's gates has the batch's rows.
use Rattle.std.proofs.Common.{◌≡◌, ◌∙◌, ap, sym, refl, ℕ, zero, suc, ◌<◌, List, [], ◌∷◌, length, Option, Some, None, arith, subst}
use Rattle.std.specs.Prelude.{Contains}
use Rattle.std.proofs.lemmas.List.{get_or_default}
use Rattle.std.proofs.lemmas.List.Elements.{Contains-get_or}
use Rattle.assignment_dual.specs.Pairings.{Row, IsLeast}
use Rattle.assignment_dual.specs.Problems.{Edge, Problem, IsProblem, edge_at, row_of, rows_of}
use Rattle.assignment_dual.specs.Rests.{row_at}
use Rattle.assignment_dual.specs.Least.{AreAlike}
use Rattle.assignment_dual.proofs.Building.{row_found}
use Rattle.assignment_dual.proofs.Signed.{row_tells, row_at_index, count_rows}
use Rattle.assignment_dual.proofs.Unique.{one_least, alike_least}
use Rattle.slot_step.specs.Batches.{Tracking, row, rows, least}
use Rattle.slot_step.specs.Certificates.{IsAt}
use Rattle.slot_step.specs.Problems.{IsProblemOf, IsGateBetween}
use Rattle.slot_step.proofs.Weaving.{least_is, rows_length}

-- what stands at an index
pub stands : {X : Type 0} (xs : List X) (i : ℕ) → i < length xs → (x : X) × IsAt xs i x
stands [] i h = absurd (omega (arith, h))
stands (x ∷ xs) zero h = (x, refl)
stands (x ∷ xs) (suc i) h = stands xs i (omega (arith, h))

pub one_at : {X : Type 0} (xs : List X) (i : ℕ) (x y : X) → IsAt xs i x → IsAt xs i y → x ≡ y
one_at [] i x y h g = absurd h
one_at (z ∷ xs) zero x y h g = sym h ∙ g
one_at (z ∷ xs) (suc i) x y h g = one_at xs i x y h g

same_option : (x y : Option ℕ) → ((c : ℕ) → x ≡ Some c → y ≡ Some c) → ((c : ℕ) → y ≡ Some c → x ≡ Some c) → x ≡ y
same_option None None f g = refl
same_option None (Some c) f g = g c refl
same_option (Some c) y f g = sym (f c refl)

module _ {T P : Type 0} (gate : T → P → Option ℕ) where
  pub rows_at : (ts : List T) (ps : List P) (i : ℕ) (p : P) → IsAt ps i p → row_at (rows gate ts ps) i ≡ row gate ts p
  rows_at ts [] i p h = absurd h
  rows_at ts (q ∷ ps) zero p h = ap (row gate ts) h
  rows_at ts (q ∷ ps) (suc i) p h = rows_at ts ps i p h

  pub row_is : (ts : List T) (p : P) (j : ℕ) (t : T) → IsAt ts j t → row gate ts p j ≡ gate t p
  row_is [] p j t h = absurd h
  row_is (u ∷ ts) p zero t h = ap (λ v. gate v p) h
  row_is (u ∷ ts) p (suc j) t h = row_is ts p j t h

  pub row_some : (ts : List T) (p : P) (j c : ℕ) → row gate ts p j ≡ Some c → (t : T) × IsAt ts j t × (gate t p ≡ Some c)
  row_some [] p j c e = cc
  row_some (u ∷ ts) p zero c e = (u, refl, e)
  row_some (u ∷ ts) p (suc j) c e = row_some ts p j c e

  in_edges : (q : Problem) → IsProblem q → (i j c : ℕ) → Contains q.edges (i, j, c) → row_of q.edges i j ≡ Some c
  in_edges q h i j c d =
      let e : edge_at q.edges d.0 ≡ (i, j, c) = get_or_default q.edges d.0 (0, 0, 0) (i, j, c) d.1 ∙ d.2 in
      subst (λ (x : Edge). row_of q.edges x.0 x.1 ≡ Some x.2) e (row_found q.edges d.0 h.rising d.1)

  pub of_edges : (q : Problem) (i j c : ℕ) → row_of q.edges i j ≡ Some c → Contains q.edges (i, j, c)
  of_edges q i j c e = row_tells (λ a b d. Contains q.edges (a, b, d)) q.edges i j c (λ k l. Contains-get_or q.edges k (0, 0, 0) l) e

  one_row : (ts : List T) (ps : List P) (q : Problem) → IsProblemOf gate ts ps q → (i j : ℕ) (p : P) → IsAt ps i p → row gate ts p j ≡ row_of q.edges i j
  one_row ts ps q h i j p a = same_option (row gate ts p j) (row_of q.edges i j)
      (λ c e. let s : (t : T) × IsAt ts j t × (gate t p ≡ Some c) = row_some ts p j c e in in_edges q h.problem i j c ((h.edges_are i j c).1 (record { plot = p; track = s.0; plot_at = a; track_at = s.1; gate_is = s.2 })))
      (λ c e. let g : IsGateBetween gate ts ps i j c = (h.edges_are i j c).0 (of_edges q i j c e) in row_is ts p j g.track g.track_at ∙ ap (gate g.track) (one_at ps i p g.plot a g.plot_at) ∙ g.gate_is)

  pub problem_rows : (ts : List T) (ps : List P) (q : Problem) → IsProblemOf gate ts ps q → AreAlike (rows_of q) (rows gate ts ps)
  problem_rows ts ps q h = record {
    count = rows_length gate ts ps ∙ sym h.plot_count ∙ sym (count_rows q);
    each = λ i j l.
        let n : i < q.plots = omega (arith, l, count_rows q) in
        let s : (p : P) × IsAt ps i p = stands ps i (omega (arith, n, h.plot_count)) in
        ap (λ (r : Row). r j) (rows_at ts ps i s.0 s.1) ∙ one_row ts ps q h i j s.0 s.1 ∙ sym (ap (λ (r : Row). r j) (row_at_index q i n));
  }

pub problem_least : {T P : Type 0} (k : Tracking T P) (ts : List T) (ps : List P) (q : Problem) → IsProblemOf k.gate ts ps q → (xs : List (Option ℕ)) → IsLeast (rows_of q) xs → xs ≡ least k ts ps
problem_least k ts ps q h xs l = one_least (rows k.gate ts ps) xs (least k ts ps) (alike_least (rows_of q) (rows k.gate ts ps) xs (problem_rows k.gate ts ps q h) l) (least_is k ts ps)
