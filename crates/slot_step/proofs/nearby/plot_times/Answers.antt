use Rattle.std.proofs.Common.{rules, ◌≡◌, ap, sym, subst, ℕ, arith}
use Rattle.std.specs.Prelude.{min, max}
use Rattle.plot_geometry.specs.Plots.{PlanePlot}
use Rattle.slot_step.specs.Certificates.{IsAt}
use Rattle.slot_step.proofs.Certifying.{within}
use Rattle.slot_step.proofs.Components.{get_at}
use Rattle.slot_step.proofs.Places.{first_times, more_times, all_times}
use Rattle.slot_step.proofs.nearby.plot_times.Goals as goal

pub loop-plot-init : goal.loop-plot-init
loop-plot-init c =
    let ps = c.args.plots.now in
    let p : PlanePlot = c.index-plots-0.result in
    first_times ps p c.first.inside.key.time (subst (IsAt ps 0) (sym c.index-plots-0.is) (get_at p ps 0 c.requires)) (sym (ap (λ (q : PlanePlot). q.key.time) c.first.view_is))

pub loop-plot-preserved : goal.loop-plot-preserved
loop-plot-preserved c =
    let ps = c.args.plots.now in
    let i = c.loop-plot.plot-index in
    let p : PlanePlot = c.plot-item.result in
    let t : ℕ = c.plot.inside.key.time in
    let low : c.min-earliest.result ≡ min c.loop-plot.earliest t = search rules in
    let high : c.max-latest.result ≡ max c.loop-plot.latest t = search rules in
    more_times ps i p c.loop-plot.earliest c.loop-plot.latest t c.min-earliest.result c.max-latest.result c.loop-plot.invariant (subst (IsAt ps i) (sym c.plot-item.is) (get_at p ps i c.loop-plot-test.true)) (sym (ap (λ (q : PlanePlot). q.key.time) c.plot.view_is)) low high

pub returns : goal.returns
returns c = all_times c.args.plots.now c.loop-plot.plot-index c.loop-plot.earliest c.loop-plot.latest c.loop-plot.invariant (λ i p at. omega (arith, c.loop-plot-test.false, within c.args.plots.now i p at))
