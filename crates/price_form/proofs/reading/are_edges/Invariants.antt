use Rattle.std.proofs.Common.{ℕ, ◌<◌, ◌≤◌}
use Rattle.assignment_dual.specs.Problems.{EdgeBefore, edge_at}
use Rattle.price_form.proofs.ReadSteps.{IsLast}
use Rattle.price_form.proofs.reading.are_edges.Given as goal

abbrev pub invariant-loop-i : goal.invariant-loop-i
invariant-loop-i g l =
    let edges = g.E.Column.list l.edges in
    record {
      last_is : IsLast edges l.i l.last;
      rising : (a b : ℕ) → a < b → b < l.i → EdgeBefore (edge_at edges a) (edge_at edges b);
      plots : (k : ℕ) → k < l.i → (edge_at edges k).0 < l.plots;
      tracks : (k : ℕ) → k < l.i → (edge_at edges k).1 < l.tracks;
      costs : (k : ℕ) → k < l.i → (edge_at edges k).2 ≤ 4096;
    }
