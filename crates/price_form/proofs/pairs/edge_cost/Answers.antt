use Rattle.std.proofs.Common.{◌≡◌, ℕ, ◌+◌, ◌-◌, ◌/◌, ◌<◌, ◌⊎◌, List, length, Option, Some, arith, inl, inr, subst, sym}
use Rattle.std.proofs.lemmas.Bool.{cases_lt}
use Rattle.assignment_dual.specs.Problems.{Edge, EdgeBefore, edge_at, row_of}
use Rattle.price_form.specs.Checks.{Rises}
use Rattle.price_form.proofs.Rows.{before_on, row_is, row_none, is_not_before, is_not_after}
use Rattle.price_form.proofs.pairs.edge_cost.Goals as goal

half_below : (low high : ℕ) → low < high → low + (high - low) / 2 < high
half_below low high lt = omega arith

found : (edges : List Edge) (i : ℕ) (e : Edge) (plot track : ℕ) → Rises edges → i < length edges → e ≡ edge_at edges i → e.0 ≡ plot → e.1 ≡ track → let cost : Option ℕ = Some e.2 in cost ≡ row_of edges plot track
found edges i e plot track up lt is p t = subst (λ (o : Edge). (o.0 ≡ plot) → (o.1 ≡ track) → let cost : Option ℕ = Some o.2 in cost ≡ row_of edges plot track) (sym is) (row_is edges i plot track up lt) p t

is_before : {A B C D : Type 0} → A ⊎ (B × C × D) → A ⊎ (C × D)
is_before (inl a) = inl a
is_before (inr b) = inr (b.1, b.2)

pub loop-low-preserved-then-at_track-track : goal.loop-low-preserved-then-at_track-track
loop-low-preserved-then-at_track-track g c =
    let edges = g.E.Column.list c.args.edges.now in
    let middle = c.loop-low.low + (c.loop-low.high - c.loop-low.low) / 2 in
    let half = half_below c.loop-low.low c.loop-low.high c.loop-low-test.true in
    record {
      order = omega (arith, half);
      inside = c.loop-low.invariant.inside;
      below = before_on edges middle (c.args.plot, c.args.track, 0) c.requires (omega (arith, half, c.loop-low.invariant.inside)) (subst (λ (o : Edge). EdgeBefore o (c.args.plot, c.args.track, 0)) (c.at-at_plot.ensures (0, 0, 0)) (is_before c.if-at_track-track.either));
      above = c.loop-low.invariant.above;
    }

pub returns-then-at_track-track-2 : goal.returns-then-at_track-track-2
returns-then-at_track-track-2 g c =
    let edges = g.E.Column.list c.args.edges.now in
    let middle = c.loop-low.low + (c.loop-low.high - c.loop-low.low) / 2 in
    found edges middle c.at-at_plot.result c.args.plot c.args.track c.requires (omega (arith, half_below c.loop-low.low c.loop-low.high c.loop-low-test.true, c.loop-low.invariant.inside)) (c.at-at_plot.ensures (0, 0, 0)) c.if-at_plot-plot-3.true c.if-at_track-track-2.true

pub returns : goal.returns
returns g c =
    let edges = g.E.Column.list c.args.edges.now in
    row_none edges c.args.plot c.args.track (λ i lt.
    elim (cases_lt i c.loop-low.low) [
      | inl below ↦ is_not_before (edge_at edges i) c.args.plot c.args.track (c.loop-low.invariant.below i below)
      | inr above ↦ is_not_after (edge_at edges i) c.args.plot c.args.track (c.loop-low.invariant.above i (omega (arith, above, c.loop-low-test.false)) lt)
    ])
