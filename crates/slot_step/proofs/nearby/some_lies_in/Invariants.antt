use Rattle.std.proofs.Common.{◌≡◌, true}
use Rattle.std.specs.List.{AllWithin}
use Rattle.plot_geometry.specs.Plots.{PlanePlot}
use Rattle.gating.specs.Coarse.{IsIn}
use Rattle.gating.specs.Gating.{is_another}
use Rattle.slot_step.specs.Certificates.{IsAt}
use Rattle.slot_step.proofs.nearby.some_lies_in.Given as goal

abbrev pub invariant-loop-place : goal.invariant-loop-place
invariant-loop-place l = AllWithin (λ e. (p : PlanePlot) → IsAt l.plots e.1 p → IsIn l.coarse p → is_another l.aim.address l.aim.code p ≡ true) l.near 0 l.place-index
