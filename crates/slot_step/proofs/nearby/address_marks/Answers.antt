use Rattle.std.proofs.Common.{◌∙◌, ap, sym, subst, arith}
use Rattle.plot_geometry.specs.Plots.{PlanePlot}
use Rattle.slot_step.specs.Certificates.{IsAt}
use Rattle.slot_step.proofs.Certifying.{within}
use Rattle.slot_step.proofs.Components.{get_at}
use Rattle.slot_step.proofs.Marking.{all_marked, one_marked, marked_to_end}
use Rattle.slot_step.proofs.nearby.address_marks.Goals as goal

pub returns-in-None : goal.returns-in-None
returns-in-None c = all_marked c.args.plots.now c.in_ok-vec-in-None.field-0.items (c.in_ok-vec-in-None.ensures.items_if_clones_equal (λ y e. e))

pub loop-plot-preserved : goal.loop-plot-preserved
loop-plot-preserved c =
    let ps = c.args.plots.now in
    let i = c.loop-plot.plot-index in
    let p : PlanePlot = c.plot-item.result in
    let at : IsAt ps i p = subst (IsAt ps i) (sym c.plot-item.is) (get_at p ps i c.loop-plot-test.true) in
    one_marked ps i c.loop-plot.marks.items p c.in-Some.address c.loop-plot.invariant at (sym (ap (λ (q : PlanePlot). q.address) c.plot.view_is) ∙ c.in-Some.is)

pub returns : goal.returns
returns c = marked_to_end c.args.plots.now c.loop-plot.plot-index c.loop-plot.marks.items c.loop-plot.invariant (λ j p at. omega (arith, c.loop-plot-test.false, within c.args.plots.now j p at))
