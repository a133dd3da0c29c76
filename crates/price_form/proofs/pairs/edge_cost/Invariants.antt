use Rattle.std.proofs.Common.{ℕ, ◌<◌, ◌≤◌, ◌-◌, length}
use Rattle.assignment_dual.specs.Problems.{EdgeBefore, edge_at}
use Rattle.price_form.proofs.pairs.edge_cost.Given as goal

abbrev pub invariant-loop-low : goal.invariant-loop-low
invariant-loop-low g l =
    let edges = g.E.Column.list l.edges in
    record {
      order : l.low ≤ l.high;
      inside : l.high ≤ length edges;
      below : (i : ℕ) → i < l.low → EdgeBefore (edge_at edges i) (l.plot, l.track, 0);
      above : (i : ℕ) → l.high ≤ i → i < length edges → EdgeBefore (l.plot, l.track, 0) (edge_at edges i);
    }

abbrev pub decreases-loop-low : goal.decreases-loop-low
decreases-loop-low g l = l.high - l.low
