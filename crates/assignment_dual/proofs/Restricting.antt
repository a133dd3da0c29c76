-- The problem of a part, and the rows of the whole batch.
use Rattle.std.proofs.Common.{◌≡◌, ◌<◌, ℕ, List, length, get_or, Option, Some, None, arith, refl, sym, ◌∙◌, subst}
use Rattle.std.specs.List.{Contains}
use Rattle.std.specs.List.Sorted.{IsStrictlyIncreasing}
use Rattle.std.proofs.lemmas.List.{length-map, get_or-map, get_or_default}
use Rattle.std.proofs.lemmas.List.Elements.{Contains-get_or}
use Rattle.assignment_dual.specs.Pairings.{Row, IsLeast}
use Rattle.assignment_dual.specs.Problems.{Edge, Problem, IsProblem, edge_at, row_of, rows_of}
use Rattle.assignment_dual.specs.Rests.{no_row, row_at}
use Rattle.assignment_dual.specs.Parts.{at_plots, IsPartOf}
use Rattle.assignment_dual.specs.Renumbering.{IsRenumbered, AreRenumbered, renumbered}
use Rattle.assignment_dual.proofs.Signed.{row_tells, row_at_index, count_rows}
use Rattle.assignment_dual.proofs.Building.{row_found}
use Rattle.assignment_dual.proofs.Choices.{is_some_of}
use Rattle.assignment_dual.proofs.Renumbering.{other_numbers}

-- what a row tells is an edge, and the other way round
edge_of : (edges : List Edge) (plot track c : ℕ) → row_of edges plot track ≡ Some c → Contains edges (plot, track, c)
edge_of edges plot track c e = row_tells (λ a b d. Contains edges (a, b, d)) edges plot track c (λ i h. Contains-get_or edges i (0, 0, 0) h) e

told_of : (p : Problem) → IsProblem p → (plot track c : ℕ) → Contains p.edges (plot, track, c) → row_of p.edges plot track ≡ Some c
told_of p h plot track c k =
    let e : edge_at p.edges k.0 ≡ (plot, track, c) = get_or_default p.edges k.0 (0, 0, 0) (plot, track, c) k.1 ∙ k.2 in
    subst (λ (o : Edge). row_of p.edges o.0 o.1 ≡ Some o.2) e (row_found p.edges k.0 h.rising k.1)

same_option : (x y : Option ℕ) → ((c : ℕ) → x ≡ Some c → y ≡ Some c) → ((c : ℕ) → y ≡ Some c → x ≡ Some c) → x ≡ y
same_option None None f g = refl
same_option None (Some c) f g = g c refl
same_option (Some c) y f g = sym (f c refl)

renumbered_row : (p q : Problem) (plots tracks : List ℕ) → IsProblem p → IsProblem q → IsPartOf p plots tracks q → (i : ℕ) → i < length plots → IsRenumbered tracks (row_of q.edges i) (row_of p.edges (get_or plots i 0))
renumbered_row p q plots tracks hp hq r i h = record {
  within = λ place s.
      let c : (c : ℕ) × (row_of q.edges i place ≡ Some c) = is_some_of (row_of q.edges i place) s in
      let l : place < q.tracks = row_tells (λ a b d. b < q.tracks) q.edges i place c.0 (λ j k. hq.tracks j (0, 0, 0) k) c.1 in
      omega (arith, l, r.tracks);
  same = λ place l. same_option (row_of p.edges (get_or plots i 0) (get_or tracks place 0)) (row_of q.edges i place)
      (λ c e. told_of q hq i place c ((r.edges i place c h l).1 (edge_of p.edges (get_or plots i 0) (get_or tracks place 0) c e)))
      (λ c e. told_of p hp (get_or plots i 0) (get_or tracks place 0) c ((r.edges i place c h l).0 (edge_of q.edges i place c e)));
  named = λ track s.
      let c : (c : ℕ) × (row_of p.edges (get_or plots i 0) track ≡ Some c) = is_some_of (row_of p.edges (get_or plots i 0) track) s in
      r.gates i track c.0 h (edge_of p.edges (get_or plots i 0) track c.0 c.1);
}

renumbered_rows : (p q : Problem) (plots tracks : List ℕ) → IsProblem p → IsProblem q → IsPartOf p plots tracks q → AreRenumbered tracks (rows_of q) (at_plots no_row (rows_of p) plots)
renumbered_rows p q plots tracks hp hq r = record {
  count = length-map plots (λ (v : ℕ). get_or (rows_of p) v no_row) ∙ sym r.plots ∙ sym (count_rows q);
  each = λ i h.
      let iq : i < q.plots = omega (arith, h, count_rows q) in
      let il : i < length plots = omega (arith, iq, r.plots) in
      let a : row_at (rows_of q) i ≡ row_of q.edges i = row_at_index q i iq in
      let b : row_at (at_plots no_row (rows_of p) plots) i ≡ row_of p.edges (get_or plots i 0) = get_or-map (λ (v : ℕ). get_or (rows_of p) v no_row) plots i 0 no_row il ∙ row_at_index p (get_or plots i 0) (r.inside i il) in
      subst (λ (o : Row). IsRenumbered tracks o (row_at (at_plots no_row (rows_of p) plots) i)) (sym a)
      (subst (IsRenumbered tracks (row_of q.edges i)) (sym b) (renumbered_row p q plots tracks hp hq r i il));
}

pub part_least : (p q : Problem) (plots tracks : List ℕ) (xs : List (Option ℕ)) → IsProblem p → IsProblem q → IsStrictlyIncreasing tracks → IsPartOf p plots tracks q → IsLeast (rows_of q) xs → IsLeast (at_plots no_row (rows_of p) plots) (renumbered tracks xs)
part_least p q plots tracks xs hp hq s r l = other_numbers tracks (rows_of q) (at_plots no_row (rows_of p) plots) xs s (renumbered_rows p q plots tracks hp hq r) l
