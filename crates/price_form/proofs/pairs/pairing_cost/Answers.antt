use Rattle.std.proofs.Common.{◌≡◌, ◌<◌, ℕ, Option, None, arith, subst, sym, ap}
use Rattle.assignment_dual.specs.Pairings.{Gates, entry_cost}
use Rattle.assignment_dual.specs.Problems.{row_of}
use Rattle.price_form.proofs.Rows.{more_gates, gates_each}
use Rattle.price_form.proofs.pairs.pairing_cost.Goals as goal

inside : (plot end long : ℕ) → plot < end → end ≡ long → plot < long
inside plot end long lt e = omega (arith, lt, e)

pub returns-in-None : goal.returns-in-None
returns-in-None g c = λ h.
    let edges = g.E.Column.list c.args.edges.now in
    let pairing = g.X.Column.list c.args.pairing.now in
    let lt = inside _ _ _ c.loop-plot-test.true c.len-plot-end.ensures in
    c.in-None.ensures.cost (subst (λ (x : Option ℕ). Gates (row_of edges c.loop-plot.plot) x) (sym (c.at-entry.ensures None)) (gates_each edges pairing h c.loop-plot.plot lt))

pub loop-plot-preserved : goal.loop-plot-preserved
loop-plot-preserved g c =
    let edges = g.E.Column.list c.args.edges.now in
    let pairing = g.X.Column.list c.args.pairing.now in
    let lt = inside _ _ _ c.loop-plot-test.true c.len-plot-end.ensures in
    let e = c.at-entry.ensures None in
    let more = more_gates edges pairing c.loop-plot.plot lt c.loop-plot.invariant.gates (subst (λ (x : Option ℕ). Gates (row_of edges c.loop-plot.plot) x) e c.in-Some.ensures.cost.0) in
    let same = ap (entry_cost (row_of edges c.loop-plot.plot)) e in
    record {
      gates = more.0;
      sum = omega (arith, more.1, c.loop-plot.invariant.sum, c.in-Some.ensures.cost.1, same);
      size = omega (arith, c.loop-plot.invariant.size, c.in-Some.ensures.size);
    }
