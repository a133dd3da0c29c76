use Rattle.std.proofs.Common.{rules, ◌<◌, ◌≤ℤ◌, ◌<ℤ◌, ◌+ℤ◌, pos, length}
use Rattle.std.proofs.lemmas.Bool.{false≢true}
use Rattle.assignment_dual.specs.Problems.{Edge, price_at}
use Rattle.price_form.proofs.Sums.{inside, read_all, read_within, priced, back_priced}
use Rattle.price_form.proofs.checking.edges_hold.Goals as goal

pub at-plot_price-requires : goal.at-plot_price-requires
at-plot_price-requires g c =
    let us = g.P.Column.list c.args.u.now in
    let edges = g.E.Column.list c.args.edges.now in
    read_all (λ (e : Edge). e.0 < length us) edges c.loop-i.i c.at-plot.result (inside c.loop-i.i c.loop-i-test.true c.len-i-end.ensures) c.at-plot.ensures c.requires.plots

pub at-track_price-requires : goal.at-track_price-requires
at-track_price-requires g c =
    let vs = g.P.Column.list c.args.v.now in
    let edges = g.E.Column.list c.args.edges.now in
    read_all (λ (e : Edge). e.1 < length vs) edges c.loop-i.i c.at-plot.result (inside c.loop-i.i c.loop-i-test.true c.len-i-end.ensures) c.at-plot.ensures c.requires.tracks

pub returns-then-are_above : goal.returns-then-are_above
returns-then-are_above g c =
    let us = g.P.Column.list c.args.u.now in
    let vs = g.P.Column.list c.args.v.now in
    let edges = g.E.Column.list c.args.edges.now in
    let e = c.at-plot.result in (
      (λ t. absurd (false≢true t)),
      (λ h.
          let k = read_all (λ (e : Edge). (price_at us e.0 +ℤ price_at vs e.1) ≤ℤ pos e.2) edges c.loop-i.i e (inside c.loop-i.i c.loop-i-test.true c.len-i-end.ensures) c.at-plot.ensures h in
          let le : (c.at-plot_price.result +ℤ c.at-track_price.result) ≤ℤ pos e.2 = back_priced (λ x. x ≤ℤ pos e.2) us vs e c.at-plot_price.result c.at-track_price.result c.at-plot_price.ensures c.at-track_price.ensures k in
          let gt : pos e.2 <ℤ (c.at-plot_price.result +ℤ c.at-track_price.result) = search rules in
          search rules),
    )

pub loop-i-preserved : goal.loop-i-preserved
loop-i-preserved g c =
    let us = g.P.Column.list c.args.u.now in
    let vs = g.P.Column.list c.args.v.now in
    let edges = g.E.Column.list c.args.edges.now in
    let e = c.at-plot.result in
    let le : (c.at-plot_price.result +ℤ c.at-track_price.result) ≤ℤ pos e.2 = search rules in
    read_within (λ (e : Edge). (price_at us e.0 +ℤ price_at vs e.1) ≤ℤ pos e.2) edges c.loop-i.i e c.at-plot.ensures c.loop-i.invariant (priced (λ x. x ≤ℤ pos e.2) us vs e c.at-plot_price.result c.at-track_price.result c.at-plot_price.ensures c.at-track_price.ensures le)
