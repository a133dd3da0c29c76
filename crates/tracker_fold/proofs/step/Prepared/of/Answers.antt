use Rattle.std.proofs.Common.{◌≡◌, ◌∙◌, ap, sym, subst, List}
use Rattle.std.specs.List.{AllByRecursion}
use Rattle.std.specs.List.Sorted.{IsStrictlySortedBy}
use Rattle.trk_base.specs.Keys.{key_cmp}
use Rattle.plot_geometry.specs.Plots.{PlanePlot}
use Rattle.slot_step.specs.Calls.{AreOfOneSlot}
use Rattle.tracker_fold.specs.PlaneOrder.{planes_of_slot, planes_rise}
use Rattle.tracker_fold.specs.Steps.{planes}
use Rattle.tracker_fold.proofs.step.Prepared.of.Goals as goal

pub batches_of-requires-clause-rising : goal.batches_of-requires-clause-rising
batches_of-requires-clause-rising c =
    subst (λ (ps : List PlanePlot). IsStrictlySortedBy (λ p q. key_cmp p.key q.key) ps) (sym (c.deref-2.ensures.value ∙ c.in_ok-plots.ensures)) (planes_rise c.deref.result.now c.args.entries.now c.requires.rising)

pub batches_of-requires-clause-slot : goal.batches_of-requires-clause-slot
batches_of-requires-clause-slot c =
    subst AreOfOneSlot (sym (c.deref-2.ensures.value ∙ c.in_ok-plots.ensures)) (c.requires.of_slot.0, planes_of_slot c.deref.result.now c.requires.of_slot.0 c.args.entries.now c.requires.of_slot.1)

pub returns-clause-plots : goal.returns-clause-plots
returns-clause-plots c =
    c.in_ok-batches.ensures.plots ∙ c.deref-2.ensures.value ∙ c.in_ok-plots.ensures ∙ ap (λ rs. planes rs c.args.entries.now) (c.deref.ensures.value ∙ c.in_ok-radars.ensures)

pub returns-clause-batches : goal.returns-clause-batches
returns-clause-batches c = λ slot of_slot.
    c.in_ok-batches.ensures.batches slot (subst (AllByRecursion (λ p. p.key.slot ≡ slot)) (sym (c.deref-2.ensures.value ∙ c.in_ok-plots.ensures)) (planes_of_slot c.deref.result.now slot c.args.entries.now of_slot))
