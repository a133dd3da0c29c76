use Rattle.std.proofs.Common.{◌≡◌, List, map, take}
use Rattle.plot_geometry.specs.Plots.{PlanePlot}
use Rattle.slot_step.specs.Components.{AreAt}
use Rattle.slot_step.proofs.certs.plot_arrivals.Given as goal

abbrev pub invariant-loop-index : goal.invariant-loop-index
invariant-loop-index l = (own : List PlanePlot) → AreAt l.plots l.indices own → l.arrivals ≡ map (λ p. p.key.arrival) (take l.index-index own)
