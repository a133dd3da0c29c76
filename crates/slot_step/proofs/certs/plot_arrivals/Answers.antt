use Rattle.std.proofs.Common.{◌≡◌, ◌∙◌, ◌++◌, ◌∷◌, [], ap, map, get_or, arith}
use Rattle.std.proofs.lemmas.List.{take_all}
use Rattle.plot_geometry.specs.Plots.{PlanePlot}
use Rattle.slot_step.proofs.Components.{zip_length}
use Rattle.slot_step.specs.Certificates.{IsAt}
use Rattle.slot_step.proofs.ComponentEdges.{map_more}
use Rattle.slot_step.proofs.Telling.{at_own}
use Rattle.slot_step.proofs.certs.plot_arrivals.Goals as goal

pub loop-index-preserved : goal.loop-index-preserved
loop-index-preserved c = λ own z.
    let k = c.loop-index.index-index in
    let d = c.index-plots-index.result in
    let is : c.index-plots-index.result ≡ get_or own k d = c.index-plots-index.is ∙ at_own c.args.plots.now c.args.indices.now own z k c.loop-index-test.true d in
    c.in_ok-push.ensures.ok ∙ ap (λ (p : PlanePlot). c.loop-index.arrivals ++ p.key.arrival ∷ []) (c.plot.view_is ∙ is)
    ∙ map_more (λ (p : PlanePlot). p.key.arrival) own k d c.loop-index.arrivals [] (omega (arith, c.loop-index-test.true, zip_length (IsAt c.args.plots.now) c.args.indices.now own z)) (c.loop-index.invariant own z)

pub returns : goal.returns
returns c = λ own z. c.loop-index.invariant own z ∙ ap (map (λ p. p.key.arrival)) (take_all c.loop-index.index-index own (omega (arith, c.loop-index-test.false, zip_length (IsAt c.args.plots.now) c.args.indices.now own z)))
