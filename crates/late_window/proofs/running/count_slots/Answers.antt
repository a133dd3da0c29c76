use Rattle.std.proofs.Common.{◌≡◌, ◌∙◌, ◌<◌, ◌^◌, ap, arith, rules, drop, length}
use Rattle.late_window.specs.Folding.{group_count}
use Rattle.late_window.proofs.Groups.{BeginsWith, begins_with, group_within, slots_rise, low_all, slots_group, drop_rises}
use Rattle.late_window.proofs.Cuts.{slots_within, no_items}
use Rattle.late_window.proofs.running.count_slots.Goals as goal

pub split_at-requires : goal.split_at-requires
split_at-requires g c = omega (arith, c.group_len.ensures, group_within g.F.Fold.slot_of c.slot-slot.result c.loop-rest.rest.now)

pub overflow_add-count : goal.overflow_add-count
overflow_add-count g c =
    let slot = g.F.Fold.slot_of in
    let n = c.slot-slot.result in
    let xs = c.loop-rest.rest.now in
    let first : BeginsWith slot n xs = begins_with slot n xs _ c.loop-rest-test.ensures c.index-rest-0.is c.slot-slot.ensures in
    let r = slots_rise g.F.Item.Ord.cmp g.F.Fold.key_of slot g.met.F.Fold.in_order xs c.loop-rest.invariant.rising in
    let small : length c.args.items.now < 2 ^ 64 = search rules in
    record { fits = omega (arith, small, slots_within slot c.args.items.now, c.loop-rest.invariant.sum, ap length (slots_group slot n xs r (low_all slot n xs r first) first)) }

pub loop-rest-preserved : goal.loop-rest-preserved
loop-rest-preserved g c =
    let slot = g.F.Fold.slot_of in
    let n = c.slot-slot.result in
    let xs = c.loop-rest.rest.now in
    let first : BeginsWith slot n xs = begins_with slot n xs _ c.loop-rest-test.ensures c.index-rest-0.is c.slot-slot.ensures in
    let r = slots_rise g.F.Item.Ord.cmp g.F.Fold.key_of slot g.met.F.Fold.in_order xs c.loop-rest.invariant.rising in
    let rest : c.split_at.result.1.now ≡ drop (group_count slot n xs) xs = c.split_at.ensures.back ∙ ap (λ k. drop k xs) c.group_len.ensures in
    record {
      sum = rw rest (omega (arith, c.loop-rest.invariant.sum, ap length (slots_group slot n xs r (low_all slot n xs r first) first)));
      rising = rw rest (drop_rises g.F.Item.Ord.cmp g.F.Fold.key_of (group_count slot n xs) xs c.loop-rest.invariant.rising);
    }

pub returns : goal.returns
returns g c = let none = ap length (no_items g.F.Fold.slot_of c.loop-rest.rest.now c.loop-rest-test.ensures) in omega (arith, none, c.loop-rest.invariant.sum)
