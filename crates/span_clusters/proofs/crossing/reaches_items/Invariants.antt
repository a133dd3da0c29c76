use Rattle.std.proofs.Common.{ℕ, ◌≤◌, length}
use Rattle.std.specs.List.{AllByRecursion}
use Rattle.late_window.specs.Folding.{Rises}
use Rattle.span_clusters.specs.Runs.{IsLeftOf}
use Rattle.span_clusters.proofs.Reaching.{IsLeft}
use Rattle.span_clusters.proofs.crossing.reaches_items.Given as goal

abbrev pub invariant-loop-state : goal.invariant-loop-state
invariant-loop-state g l =
    let F = g.F.Fold in
    record {
      gone : IsLeft F.slot_of F.next g.F.Separable.gates l.start l.own l.others l.rest;
      rising : Rises g.F.Item.Ord.cmp F.key_of l.rest;
      upto : ℕ;
      walked : IsLeftOf F.next F.slot_of g.F.Item.Ord.cmp F.key_of l.start l.own upto l.state l.mine l.left;
      above : AllByRecursion (λ x. upto ≤ F.slot_of x) l.rest;
    }

abbrev pub decreases-loop-state : goal.decreases-loop-state
decreases-loop-state g l = length l.rest
