use Rattle.std.proofs.Common.{◌≡◌, ◌∙◌, ◌+◌, ◌-◌, ◌++◌, ◌∷◌, ap, sym, ℕ, List, [], length, take, drop, arith, subst}
use Rattle.std.proofs.lemmas.List.{take_all, length-drop}
use Rattle.plot_geometry.specs.Plots.{PlanePlot}
use Rattle.slot_step.specs.OneBatch.{Batch}
use Rattle.slot_step.specs.Calls.{IsFirstBatch}
use Rattle.slot_step.proofs.Cutting.{AreCut, Rise, rise_drop, cut_more}
use Rattle.slot_step.proofs.batches.batches_of.Goals as goal

rest_is : (from : ℕ) (ps : List PlanePlot) → take (length ps - from) (drop from ps) ≡ drop from ps
rest_is from ps = take_all (length ps - from) (drop from ps) (omega (arith, length-drop from ps))

pub first_batch-requires-clause-rising : goal.first_batch-requires-clause-rising
first_batch-requires-clause-rising c = subst Rise (sym (rest_is c.loop-from.from c.args.plots.now)) (rise_drop c.loop-from.from c.args.plots.now c.requires.rising)

pub loop-from-preserved : goal.loop-from-preserved
loop-from-preserved c =
    let ps = c.args.plots.now in
    let from = c.loop-from.from in
    let b : Batch = c.in_ok-batch.batch in
    let first : IsFirstBatch (take (length ps - from) (drop from ps)) b = c.in_ok-batch.ensures in
    let more : AreCut ps (c.loop-from.batches.items ++ b ∷ []) (from + length b.plots) = cut_more ps c.loop-from.batches.items from b c.loop-from.invariant (subst (λ (qs : List PlanePlot). IsFirstBatch qs b) (rest_is from ps) first) in
    let count : c.len-from.result ≡ length b.plots = c.len-from.ensures ∙ ap (λ (d : Batch). length d.plots) c.batch.view_is in
    subst (λ (y : List Batch × ℕ). AreCut ps y.0 (from + y.1)) (λ i. (sym c.in_ok-push.ensures.items i, sym count i)) more
