use Rattle.std.proofs.Common.{rules, length, ◌≤◌}
use Rattle.late_window.proofs.Groups.{BeginsWith, Begins, begins, begins_with, slots_rise, low_all}
use Rattle.span_clusters.proofs.Runs.{some_left, passed, all_above}
use Rattle.span_clusters.proofs.walking.run_from.Goals as goal

pub returns-then-slot-first-clause-above : goal.returns-then-slot-first-clause-above
returns-then-slot-first-clause-above g c =
    let F = g.F.Fold in
    let k = c.slot-first.result in
    let ys = c.loop-first.rest.now in
    let first : BeginsWith F.slot_of k ys = begins_with F.slot_of k ys _ c.loop-first-test.ensures c.index-rest-0.is c.slot-first.ensures in
    let rise = slots_rise g.F.Item.Ord.cmp F.key_of F.slot_of g.met.F.Fold.in_order ys c.loop-first.invariant.rising in
    all_above F.slot_of F.next F.is_out g.F.Item.Ord.cmp F.key_of c.args.start.now c.args.items.now k c.args.slot ys (low_all F.slot_of k ys rise first) c.if-slot-first.true

pub bounds-left-0 : goal.bounds-left-0
bounds-left-0 g c =
    let F = g.F.Fold in
    let k = c.slot-first.result in
    let ys = c.loop-first.rest.now in
    let first : BeginsWith F.slot_of k ys = begins_with F.slot_of k ys _ c.loop-first-test.ensures c.index-rest-0.is c.slot-first.ensures in
    let b : Begins F.slot_of F.next F.is_out c.loop-first.state.now k ys = begins F.slot_of F.next F.is_out c.loop-first.state.now k ys (slots_rise g.F.Item.Ord.cmp F.key_of F.slot_of g.met.F.Fold.in_order ys c.loop-first.invariant.rising) first in
    let some : 1 ≤ length c.loop-first.left.now = some_left F.slot_of F.next F.is_out g.F.Item.Ord.cmp F.key_of c.args.start.now c.args.items.now c.loop-first.state.now k c.args.slot ys c.loop-first.left.now b c.loop-first.invariant in
    search rules

pub split_at-requires : goal.split_at-requires
split_at-requires g c =
    let F = g.F.Fold in
    let k = c.slot-first.result in
    let ys = c.loop-first.rest.now in
    let first : BeginsWith F.slot_of k ys = begins_with F.slot_of k ys _ c.loop-first-test.ensures c.index-rest-0.is c.slot-first.ensures in
    let b : Begins F.slot_of F.next F.is_out c.loop-first.state.now k ys = begins F.slot_of F.next F.is_out c.loop-first.state.now k ys (slots_rise g.F.Item.Ord.cmp F.key_of F.slot_of g.met.F.Fold.in_order ys c.loop-first.invariant.rising) first in
    some_left F.slot_of F.next F.is_out g.F.Item.Ord.cmp F.key_of c.args.start.now c.args.items.now c.loop-first.state.now k c.args.slot ys c.loop-first.left.now b c.loop-first.invariant

pub loop-first-preserved : goal.loop-first-preserved
loop-first-preserved g c =
    let F = g.F.Fold in
    let k = c.slot-first.result in
    let ys = c.loop-first.rest.now in
    let first : BeginsWith F.slot_of k ys = begins_with F.slot_of k ys _ c.loop-first-test.ensures c.index-rest-0.is c.slot-first.ensures in
    let b : Begins F.slot_of F.next F.is_out c.loop-first.state.now k ys = begins F.slot_of F.next F.is_out c.loop-first.state.now k ys (slots_rise g.F.Item.Ord.cmp F.key_of F.slot_of g.met.F.Fold.in_order ys c.loop-first.invariant.rising) first in
    rw (c.split_group.ensures.others, c.split_at.ensures.back)
    (passed F.slot_of F.next F.is_out g.F.Item.Ord.cmp F.key_of c.args.start.now c.args.items.now c.loop-first.state.now c.index-left-0.result k c.args.slot ys c.loop-first.left.now b c.if-slot-first.false c.loop-first.invariant c.index-left-0.is)
