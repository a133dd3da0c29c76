use Rattle.std.proofs.Common.{◌∙◌, sym, refl, arith, subst, ◌<◌, ◌≤◌, length}
use Rattle.late_window.specs.Folding.{group_count}
use Rattle.late_window.proofs.Groups.{BeginsWith, SlotsRise, begins_with, group_in_slot, group_some, slots_rise, drop_rises, take_rises, rest_above, low_all, weaker}
use Rattle.span_clusters.specs.Parts.{IsFilled}
use Rattle.span_clusters.proofs.Separating.{Separating, SeparatingLaws}
use Rattle.span_clusters.proofs.Reaching.{front_is, step_left, before_other, same_reach, further, state_here, items_here, first_above}
use Rattle.span_clusters.proofs.crossing.reaches_items.Goals as goal

pub crosses-requires-clause-before : goal.crosses-requires-clause-before
crosses-requires-clause-before g c =
    let S = g.row.F-State.Denot in
    let I = g.row.F-Item.Denot in
    let K = g.row.F-Key.Denot in
    let O = g.row.F-Out.Denot in
    let F : Separating S I K O = record {
      cmp = g.F.Item.Ord.cmp;
      key = g.F.Fold.key_of;
      slot = g.F.Fold.slot_of;
      next = g.F.Fold.next;
      is_out = g.F.Fold.is_out;
      is_before = g.F.Fold.is_before;
      is_beside = g.F.Separable.is_beside;
      merged = g.F.Separable.merged;
      gates = g.F.Separable.gates;
      both = g.F.Separable.both;
    } in
    let L : SeparatingLaws F = record {
      stays_before = g.met.F.Fold.stays_before;
      goes_before = g.met.F.Fold.goes_before;
      beside_back = g.met.F.Separable.beside_back;
      beside_merged = g.met.F.Separable.beside_merged;
      beside_next = g.met.F.Separable.beside_next;
      merged_back = g.met.F.Separable.merged_back;
      merged_before = g.met.F.Separable.merged_before;
      gates_merged = g.met.F.Separable.gates_merged;
      next_merged = g.met.F.Separable.next_merged;
      out_merged = g.met.F.Separable.out_merged;
      out_alone = g.met.F.Separable.out_alone;
      next_rested = g.met.F.Separable.next_rested;
      out_rested = g.met.F.Separable.out_rested;
      gates_rested = g.met.F.Separable.gates_rested;
    } in
    let M = g.F.Fold in
    let gates = g.F.Separable.gates in
    let n = c.slot-slot.result in
    let xs = c.loop-state.rest.now in
    let first : BeginsWith M.slot_of n xs = begins_with M.slot_of n xs _ c.loop-state-test.ensures c.index-rest-0.is c.slot-slot.ensures in
    let rise : SlotsRise M.slot_of xs = slots_rise g.F.Item.Ord.cmp M.key_of M.slot_of g.met.F.Fold.in_order xs c.loop-state.invariant.rising in
    let left = further M.slot_of M.next M.is_out g.F.Item.Ord.cmp M.key_of c.args.start.now c.args.own.now c.loop-state.invariant.upto n c.loop-state.state.now c.run_from.result.0.now c.loop-state.mine.now c.run_from.result.1.now c.loop-state.left.now c.run_from.result.2.now
    (first_above M.slot_of c.loop-state.invariant.upto n xs c.loop-state.invariant.above first) c.loop-state.invariant.walked c.run_from.ensures.left in
    let state = state_here M.slot_of M.next M.is_out g.F.Item.Ord.cmp M.key_of c.args.start.now c.args.own.now n c.run_from.result.0.now c.run_from.result.1.now c.run_from.result.2.now left c.run_from.ensures.above in
    let is = front_is M.slot_of M.next gates c.args.start.now c.args.own.now c.args.others.now n xs rise first c.loop-state.invariant.gone in
    let filled : IsFilled F.slot n c.args.others.now = subst (λ l. 0 < length l) is (group_some F.slot n xs first) in
    subst (λ s. F.is_before s n) (sym state)
    (before_other F L c.args.start.now c.args.own.now c.args.others.now n c.requires.own_rises (slots_rise F.cmp F.key F.slot g.met.F.Fold.in_order c.args.own.now c.requires.own_rises) c.requires.own_before c.requires.others_before filled)

pub crosses-requires-clause-own_slot : goal.crosses-requires-clause-own_slot
crosses-requires-clause-own_slot g c = rw c.split_group-in-loop-state.ensures.group (group_in_slot g.F.Fold.slot_of c.slot-slot.result c.run_from.result.1.now)

pub crosses-requires-clause-own_rises : goal.crosses-requires-clause-own_rises
crosses-requires-clause-own_rises g c = rw c.split_group-in-loop-state.ensures.group (take_rises g.F.Item.Ord.cmp g.F.Fold.key_of _ c.run_from.result.1.now c.run_from.ensures.left.rising)

pub crosses-requires-clause-other_slot : goal.crosses-requires-clause-other_slot
crosses-requires-clause-other_slot g c = rw c.split_group.ensures.group (group_in_slot g.F.Fold.slot_of c.slot-slot.result c.loop-state.rest.now)

pub crosses-requires-clause-other_rises : goal.crosses-requires-clause-other_rises
crosses-requires-clause-other_rises g c = rw c.split_group.ensures.group (take_rises g.F.Item.Ord.cmp g.F.Fold.key_of _ c.loop-state.rest.now c.loop-state.invariant.rising)

pub returns-then-branch : goal.returns-then-branch
returns-then-branch g c =
    let M = g.F.Fold in
    let gates = g.F.Separable.gates in
    let n = c.slot-slot.result in
    let xs = c.loop-state.rest.now in
    let first : BeginsWith M.slot_of n xs = begins_with M.slot_of n xs _ c.loop-state-test.ensures c.index-rest-0.is c.slot-slot.ensures in
    let rise : SlotsRise M.slot_of xs = slots_rise g.F.Item.Ord.cmp M.key_of M.slot_of g.met.F.Fold.in_order xs c.loop-state.invariant.rising in
    let left = further M.slot_of M.next M.is_out g.F.Item.Ord.cmp M.key_of c.args.start.now c.args.own.now c.loop-state.invariant.upto n c.loop-state.state.now c.run_from.result.0.now c.loop-state.mine.now c.run_from.result.1.now c.loop-state.left.now c.run_from.result.2.now
    (first_above M.slot_of c.loop-state.invariant.upto n xs c.loop-state.invariant.above first) c.loop-state.invariant.walked c.run_from.ensures.left in
    let state = state_here M.slot_of M.next M.is_out g.F.Item.Ord.cmp M.key_of c.args.start.now c.args.own.now n c.run_from.result.0.now c.run_from.result.1.now c.run_from.result.2.now left c.run_from.ensures.above in
    let own = c.split_group-in-loop-state.ensures.group ∙ items_here M.slot_of M.next M.is_out g.F.Item.Ord.cmp M.key_of c.args.start.now c.args.own.now n c.run_from.result.0.now c.run_from.result.1.now c.run_from.result.2.now left
    (slots_rise g.F.Item.Ord.cmp M.key_of M.slot_of g.met.F.Fold.in_order c.run_from.result.1.now c.run_from.ensures.left.rising) c.run_from.ensures.above in
    let others = c.split_group.ensures.group ∙ front_is M.slot_of M.next gates c.args.start.now c.args.own.now c.args.others.now n xs rise first c.loop-state.invariant.gone in
    (λ t. (n, same_reach gates n _ _ _ _ _ _ state own others (c.in_ok-crosses.ensures.0 c.if-branch.true)), λ r. refl)

pub loop-state-preserved : goal.loop-state-preserved
loop-state-preserved g c =
    let M = g.F.Fold in
    let gates = g.F.Separable.gates in
    let n = c.slot-slot.result in
    let xs = c.loop-state.rest.now in
    let first : BeginsWith M.slot_of n xs = begins_with M.slot_of n xs _ c.loop-state-test.ensures c.index-rest-0.is c.slot-slot.ensures in
    let rise : SlotsRise M.slot_of xs = slots_rise g.F.Item.Ord.cmp M.key_of M.slot_of g.met.F.Fold.in_order xs c.loop-state.invariant.rising in
    let left = further M.slot_of M.next M.is_out g.F.Item.Ord.cmp M.key_of c.args.start.now c.args.own.now c.loop-state.invariant.upto n c.loop-state.state.now c.run_from.result.0.now c.loop-state.mine.now c.run_from.result.1.now c.loop-state.left.now c.run_from.result.2.now
    (first_above M.slot_of c.loop-state.invariant.upto n xs c.loop-state.invariant.above first) c.loop-state.invariant.walked c.run_from.ensures.left in
    let state = state_here M.slot_of M.next M.is_out g.F.Item.Ord.cmp M.key_of c.args.start.now c.args.own.now n c.run_from.result.0.now c.run_from.result.1.now c.run_from.result.2.now left c.run_from.ensures.above in
    let own = c.split_group-in-loop-state.ensures.group ∙ items_here M.slot_of M.next M.is_out g.F.Item.Ord.cmp M.key_of c.args.start.now c.args.own.now n c.run_from.result.0.now c.run_from.result.1.now c.run_from.result.2.now left
    (slots_rise g.F.Item.Ord.cmp M.key_of M.slot_of g.met.F.Fold.in_order c.run_from.result.1.now c.run_from.ensures.left.rising) c.run_from.ensures.above in
    let others = c.split_group.ensures.group ∙ front_is M.slot_of M.next gates c.args.start.now c.args.own.now c.args.others.now n xs rise first c.loop-state.invariant.gone in
    rw c.split_group.ensures.others (record {
      gone = step_left M.slot_of M.next gates c.args.start.now c.args.own.now c.args.others.now n xs rise first c.loop-state.invariant.gone
          (λ r. let t = c.in_ok-crosses.ensures.1 (same_reach gates n _ _ _ _ _ _ (sym state) (sym own) (sym others) r) in let f = c.if-branch.false in cc);
      rising = drop_rises g.F.Item.Ord.cmp M.key_of (group_count M.slot_of n xs) xs c.loop-state.invariant.rising;
      upto = n;
      walked = left;
      above = weaker (λ x. n < M.slot_of x) (λ x. n ≤ M.slot_of x) _ (λ x h. omega (arith, h)) (rest_above M.slot_of n xs rise (low_all M.slot_of n xs rise first));
    })
