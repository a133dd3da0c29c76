use Rattle.std.proofs.Common.{◌≡◌, ◌∙◌, ap, List, IsTrue, subst}
use Rattle.std.specs.Prelude.{◌↔◌, IfOk}
use Rattle.plot_geometry.specs.Plots.{PlanePlot}
use Rattle.track_life.specs.declared.settings.LifeSettings.{LifeSettings}
use Rattle.track_life.specs.Tracks.{TrackState}
use Rattle.slot_step.specs.Calls.{plots_of}
use Rattle.slot_step.specs.Parts.{Reaches}
use Rattle.slot_step.specs.Tracker.{tracking, ordered}
use Rattle.track_parts.proofs.parts.PlotFoldSeparable.crosses.Goals as goal

pub returns : goal.returns
returns c =
    let own : plots_of c.deref.result.now ≡ c.args.own.now = ap plots_of c.deref.ensures.value ∙ c.in_ok-batches.ensures.plots in
    let others : plots_of c.deref-2.result.now ≡ c.args.other.now = ap plots_of c.deref-2.ensures.value ∙ c.in_ok-others.ensures.plots in
    subst (λ (z : LifeSettings × (List TrackState × (List PlanePlot × List PlanePlot))). IfOk c.reaches.result (λ b. IsTrue b ↔ Reaches (tracking z.0) (ordered z.0) c.args.slot z.1.0 z.1.1.0 z.1.1.1))
    (λ i. (c.life.ensures i, (c.table.ensures i, (own i, others i)))) c.reaches.ensures
