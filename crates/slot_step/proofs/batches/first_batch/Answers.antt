use Rattle.std.proofs.Common.{rules, ◌≡◌, ◌∙◌, ◌<◌, ap, sym, true, false, List, take, leb, subst}
use Rattle.std.specs.List.Sorted.{IsPartitionPoint}
use Rattle.std.proofs.lemmas.List.Sorted.{IsPartitionPoint-from_clause}
use Rattle.plot_geometry.specs.Plots.{PlanePlot}
use Rattle.slot_step.specs.OneBatch.{IsBatch}
use Rattle.slot_step.specs.Calls.{IsFirstBatch}
use Rattle.slot_step.proofs.Cutting.{radars_parted, first_is, first_batch_is}
use Rattle.slot_step.proofs.batches.first_batch.Goals as goal

point : (c : goal.After-of) → IsPartitionPoint (λ (p : PlanePlot). leb p.key.radar c.first.inside.key.radar ≡ true) (λ p. leb p.key.radar c.first.inside.key.radar ≡ false) c.args.plots.now c.partition_point-count.result
point c = IsPartitionPoint-from_clause (λ (p : PlanePlot). leb p.key.radar c.first.inside.key.radar) c.args.plots.now c.partition_point-count.result c.partition_point-count.ensures.partitioned
    (radars_parted c.requires.slot.0 c.first.inside.key.radar c.args.plots.now c.requires.rising c.requires.slot.1) (λ a r f h. search rules)

own : (c : goal.After-of) → IsBatch (record { radar = c.first.inside.key.radar; plots = take c.partition_point-count.result c.args.plots.now })
own c =
    let octet : c.first.inside.key.radar < 256 = search rules in
    first_is c.requires.slot.0 c.args.plots.now c.first.inside.key.radar c.partition_point-count.result c.index-plots-0.result c.requires.some c.requires.rising c.requires.slot.1
    (ap (λ (p : PlanePlot). p.key.radar) (c.first.view_is ∙ c.index-plots-0.is)) octet c.partition_point-count.ensures.bound (point c)

plots_are : (c : goal.After-of) → take c.partition_point-count.result c.args.plots.now ≡ c.of.result
plots_are c = sym (c.of.ensures ∙ c.in_ok-from_slice.ensures.items)

pub invariant_of-result : goal.invariant_of-result
invariant_of-result c = subst (λ (ps : List PlanePlot). IsBatch (record { radar = c.first.inside.key.radar; plots = ps })) (plots_are c) (own c)

pub returns : goal.returns
returns c = subst (λ (ps : List PlanePlot). IsFirstBatch c.args.plots.now (record { radar = c.first.inside.key.radar; plots = ps })) (plots_are c)
    (first_batch_is c.args.plots.now c.first.inside.key.radar c.partition_point-count.result c.partition_point-count.ensures.bound (point c) (own c))
