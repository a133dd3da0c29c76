use Rattle.std.proofs.Common.{◌≡◌, ◌<◌, ◌+◌, ◌∙◌, ap, sym, arith, subst, ℕ, List, Option, length}
use Rattle.assignment_dual.specs.Problems.{Edge, Problem, IsProblem, edge_at}
use Rattle.assignment_dual.specs.Single.{IsNearest}
use Rattle.assignment_dual.proofs.OnePlot.{nearest_first, nearest_taken, nearest_kept}
use Rattle.assignment_dual.proofs.single.nearest.Goals as goal
use Rattle.assignment_dual.proofs.single.nearest.Goals.{then-cost-least, else-cost-least}

pub loop-track-init : goal.loop-track-init
loop-track-init c = nearest_first c.args.costs.now.edges

pub loop-track-preserved : goal.loop-track-preserved
loop-track-preserved c =
    let p : IsProblem c.args.costs.now = subst IsProblem c.costs.view_is c.costs.invariant in
    let edges = c.args.costs.now.edges in
    let n = c.loop-track.track-index in
    let es : c.as_slice-track-items.result.now ≡ edges = c.as_slice-track-items.ensures ∙ ap (λ (o : Problem). o.edges) c.costs.view_is in
    let cost : c.from-cost.result ≡ (edge_at edges n).2 = c.from-cost.ensures ∙ ap (λ (o : List Edge). (edge_at o n).2) es in
    elim c.if-cost-least.branch [
      | then-cost-least w ↦
          subst (λ (t : Option ℕ × ℕ). IsNearest edges (n + 1) t.0 t.1) (λ j. (sym w.entry-is j, sym w.least-is j))
          (nearest_taken edges n c.loop-track.entry c.loop-track.least _ c.from-cost.result c.loop-track.invariant (ap (λ (o : List Edge). (edge_at o n).1) es) cost w.if-cost-least.true)
      | else-cost-least w ↦
          subst (λ (t : Option ℕ × ℕ). IsNearest edges (n + 1) t.0 t.1) (λ j. (sym w.entry-is j, sym w.least-is j))
          (nearest_kept c.args.costs.now n c.loop-track.entry c.loop-track.least c.from-cost.result p c.requires (subst (λ (o : List Edge). n < length o) es c.loop-track-test.true) c.loop-track.invariant cost (λ l. omega (arith, l, w.if-cost-least.false)))
    ]
