use Rattle.std.proofs.Common.{eqb}
use Rattle.late_window.proofs.Groups.{slots_rise, weaker}
use Rattle.span_clusters.specs.Parts.{picked_items}
use Rattle.span_clusters.proofs.PickedItems.{picked_rise, all_picked, before_each, first_of}
use Rattle.span_clusters.proofs.parting.part_of.Goals as goal

pub invariant_of-result : goal.invariant_of-result
invariant_of-result g c =
    let F = g.F.Fold in
    let k = c.args.part in
    let xs = c.args.items.now in
    let early = before_each F.slot_of F.is_before g.met.F.Fold.stays_before c.args.state.now xs (slots_rise g.F.Item.Ord.cmp F.key_of F.slot_of g.met.F.Fold.in_order xs c.requires.rising) c.requires.before in
    rw (c.in_ok-split.ensures, c.in_ok-items_of.ensures) (record {
      rising = picked_rise g.F.Item.Ord.cmp F.key_of (λ j. eqb j k) c.args.of_items.now xs c.requires.rising;
      before = first_of F.slot_of F.is_before (g.F.Separable.picked c.args.state.now c.args.of_members.now (λ j. eqb j k)) (picked_items (λ j. eqb j k) c.args.of_items.now xs)
          (all_picked (λ x. F.is_before (g.F.Separable.picked c.args.state.now c.args.of_members.now (λ j. eqb j k)) (F.slot_of x)) (λ j. eqb j k) c.args.of_items.now xs
          (weaker (λ x. F.is_before c.args.state.now (F.slot_of x)) (λ x. F.is_before (g.F.Separable.picked c.args.state.now c.args.of_members.now (λ j. eqb j k)) (F.slot_of x)) xs (λ x b. g.met.F.Separable.picks_before c.args.state.now c.args.of_members.now (λ j. eqb j k) (F.slot_of x) c.requires.members b) early));
    })
