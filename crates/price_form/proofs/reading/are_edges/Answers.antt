use Rattle.std.proofs.Common.{◌<◌, ◌≤◌, arith, refl, subst}
use Rattle.std.proofs.lemmas.Bool.{false≢true, both_ways}
use Rattle.assignment_dual.specs.Problems.{Edge}
use Rattle.price_form.proofs.ReadSteps.{rises_more, each_more, all_edges, last_next, last_before}
use Rattle.price_form.proofs.Sums.{inside, read_all}
use Rattle.price_form.proofs.reading.are_edges.Goals as goal

pub returns-then-not-is_edge : goal.returns-then-not-is_edge
returns-then-not-is_edge g c =
    let edges = g.E.Column.list c.args.edges.now in
    let i = c.loop-i.i in
    let e = c.at-edge.result in
    let lt = inside i c.loop-i-test.true c.len-i-end.ensures in (
      (λ t. absurd (false≢true t)),
      (λ p. absurd (both_ways c.is_edge.result c.if-not-is_edge.true (c.is_edge.ensures.1 (
        read_all (λ (o : Edge). o.0 < c.args.plots) edges i e lt c.at-edge.ensures p.plots,
        read_all (λ (o : Edge). o.1 < c.args.tracks) edges i e lt c.at-edge.ensures p.tracks,
        read_all (λ (o : Edge). o.2 ≤ 4096) edges i e lt c.at-edge.ensures p.costs,
      )))),
    )

pub loop-i-preserved : goal.loop-i-preserved
loop-i-preserved g c =
    let edges = g.E.Column.list c.args.edges.now in
    let i = c.loop-i.i in
    let h = c.loop-i.invariant in
    let e = c.at-edge.ensures (0, 0, 0) in
    let one = c.is_edge.ensures.0 c.if-not-is_edge.false in
    record {
      last_is = last_next edges i c.at-edge.result c.at-edge.ensures;
      rising = rises_more edges i h.rising (last_before edges i c.loop-i.last c.at-edge.result h.last_is c.at-edge.ensures (c.follows.ensures.0 c.if-not-follows.false));
      plots = each_more edges (λ e. e.0 < c.args.plots) i h.plots (subst (λ (o : Edge). o.0 < c.args.plots) e one.0);
      tracks = each_more edges (λ e. e.1 < c.args.tracks) i h.tracks (subst (λ (o : Edge). o.1 < c.args.tracks) e one.1);
      costs = each_more edges (λ e. e.2 ≤ 4096) i h.costs (subst (λ (o : Edge). o.2 ≤ 4096) e one.2);
    }

pub returns : goal.returns
returns g c =
    let edges = g.E.Column.list c.args.edges.now in
    let h = c.loop-i.invariant in (
      (λ t. record {
        rising = λ a b lt in'. h.rising a b lt (omega (arith, in', c.loop-i-test.false, c.len-i-end.ensures));
        plots = all_edges edges (λ e. e.0 < c.args.plots) c.loop-i.i (omega (arith, c.loop-i-test.false, c.len-i-end.ensures)) h.plots;
        tracks = all_edges edges (λ e. e.1 < c.args.tracks) c.loop-i.i (omega (arith, c.loop-i-test.false, c.len-i-end.ensures)) h.tracks;
        costs = all_edges edges (λ e. e.2 ≤ 4096) c.loop-i.i (omega (arith, c.loop-i-test.false, c.len-i-end.ensures)) h.costs;
      }),
      (λ p. refl),
    )
