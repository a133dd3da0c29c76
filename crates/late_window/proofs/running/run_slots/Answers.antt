use Rattle.std.proofs.Common.{◌≡◌, ◌∙◌, ap, sym, refl, subst, arith, ◌<◌, [], ◌∷◌, ◌++◌, take, drop, length, append_assoc, append-nil}
use Rattle.std.specs.List.{AllByRecursion}
use Rattle.late_window.specs.Folding.{group_count, slots, states, BeforeFirst, AreOutsOf, latest}
use Rattle.late_window.proofs.Groups.{BeginsWith, begins_with, group_within, slots_rise, drop_rises, take_rises, group_in_slot, rest_above, slots_group, Begins, begins, states_group, outs_group, none_left, first_of_rest, at_first, group, others}
use Rattle.late_window.proofs.Latest.{latest_append}
use Rattle.late_window.proofs.running.run_slots.Goals as goal

pub split_at-requires : goal.split_at-requires
split_at-requires g c = omega (arith, c.group_len.ensures, group_within g.F.Fold.slot_of c.slot-slot.result c.loop-rest.rest.now)

pub step-requires-clause-paid : goal.step-requires-clause-paid
step-requires-clause-paid g c =
    let F = g.F.Fold in
    let n = c.slot-slot.result in
    let xs = c.loop-rest.rest.now in
    let s = latest c.args.start.now c.loop-rest.states.items in
    let first : BeginsWith F.slot_of n xs = begins_with F.slot_of n xs _ c.loop-rest-test.ensures c.index-rest-0.is c.slot-slot.ensures in
    let b : Begins F.slot_of F.next F.is_out s n xs = begins F.slot_of F.next F.is_out s n xs (slots_rise g.F.Item.Ord.cmp F.key_of F.slot_of g.met.F.Fold.in_order xs c.loop-rest.invariant.rising) first in
    omega (arith, ap length (slots_group F.slot_of n xs b.rise b.low b.first), c.loop-rest.invariant.paid)

pub step-requires-clause-before : goal.step-requires-clause-before
step-requires-clause-before g c =
    let F = g.F.Fold in
    let n = c.slot-slot.result in
    let xs = c.loop-rest.rest.now in
    let s = latest c.args.start.now c.loop-rest.states.items in
    let first : BeginsWith F.slot_of n xs = begins_with F.slot_of n xs _ c.loop-rest-test.ensures c.index-rest-0.is c.slot-slot.ensures in
    let state_is : c.latest_of.result.now ≡ s = c.latest_of.ensures ∙ ap (latest c.args.start.now) c.deref.ensures.value in
    subst (λ t. F.is_before t n) (sym state_is) (at_first F.slot_of F.next F.is_out F.is_before s n xs first c.loop-rest.invariant.before)

pub step-requires-clause-of_slot : goal.step-requires-clause-of_slot
step-requires-clause-of_slot g c = rw (c.split_at.ensures.front, c.group_len.ensures) (group_in_slot g.F.Fold.slot_of c.slot-slot.result c.loop-rest.rest.now)

pub step-requires-clause-rising : goal.step-requires-clause-rising
step-requires-clause-rising g c = rw c.split_at.ensures.front (take_rises g.F.Item.Ord.cmp g.F.Fold.key_of c.group_len.result c.loop-rest.rest.now c.loop-rest.invariant.rising)

pub loop-rest-preserved : goal.loop-rest-preserved
loop-rest-preserved g c =
    let F = g.F.Fold in
    let n = c.slot-slot.result in
    let xs = c.loop-rest.rest.now in
    let all = c.loop-rest.states.items in
    let start = c.args.start.now in
    let s = latest start all in
    let first : BeginsWith F.slot_of n xs = begins_with F.slot_of n xs _ c.loop-rest-test.ensures c.index-rest-0.is c.slot-slot.ensures in
    let b : Begins F.slot_of F.next F.is_out s n xs = begins F.slot_of F.next F.is_out s n xs (slots_rise g.F.Item.Ord.cmp F.key_of F.slot_of g.met.F.Fold.in_order xs c.loop-rest.invariant.rising) first in
    let state_is : c.latest_of.result.now ≡ s = c.latest_of.ensures ∙ ap (latest start) c.deref.ensures.value in
    let own : c.split_at.result.0.now ≡ group F.slot_of F.next F.is_out n xs = c.split_at.ensures.front ∙ ap (λ k. take k xs) c.group_len.ensures in
    let rest : c.split_at.result.1.now ≡ others F.slot_of F.next F.is_out n xs = c.split_at.ensures.back ∙ ap (λ k. drop k xs) c.group_len.ensures in
    let t = F.next s n (group F.slot_of F.next F.is_out n xs) in
    let next_is : c.in_ok-next.next ≡ t = c.in_ok-next.ensures.next ∙ (λ i. F.next (state_is i) n (own i)) in
    let pushed : c.push.new.self.items ≡ all ++ c.in_ok-next.next ∷ [] = c.in_ok-push.ensures.items in
    let last_is : latest start c.push.new.self.items ≡ t = ap (latest start) pushed ∙ latest_append start all (c.in_ok-next.next ∷ []) ∙ next_is in
    let above : AllByRecursion (λ x. n < F.slot_of x) (others F.slot_of F.next F.is_out n xs) = rest_above F.slot_of n xs b.rise b.low in
    let given : F.is_out s n (group F.slot_of F.next F.is_out n xs) c.in_ok-next.out = subst (λ u. F.is_out u n (group F.slot_of F.next F.is_out n xs) c.in_ok-next.out) state_is (subst (λ l. F.is_out c.latest_of.result.now n l c.in_ok-next.out) own c.in_ok-next.ensures.out) in
    record {
      states =
          (λ i. pushed i ++ states F.next F.slot_of (last_is i) (rest i))
          ∙ append_assoc all (c.in_ok-next.next ∷ []) (states F.next F.slot_of t (others F.slot_of F.next F.is_out n xs))
          ∙ ap (λ l. all ++ l) ((λ i. next_is i ∷ states F.next F.slot_of t (others F.slot_of F.next F.is_out n xs)) ∙ sym (states_group F.slot_of F.next F.is_out s n xs b))
          ∙ c.loop-rest.invariant.states;
      outs = λ os h.
          subst (λ l. AreOutsOf F.next F.slot_of F.is_out start c.args.items.now l)
          (sym (ap (λ l. l ++ os) c.in_ok-push-2.ensures.items ∙ append_assoc c.loop-rest.outs.items (c.in_ok-next.out ∷ []) os))
          (c.loop-rest.invariant.outs (c.in_ok-next.out ∷ os)
          (outs_group F.slot_of F.next F.is_out s n xs c.in_ok-next.out os b given
          (subst (λ u. AreOutsOf F.next F.slot_of F.is_out u (others F.slot_of F.next F.is_out n xs) os) last_is (subst (λ l. AreOutsOf F.next F.slot_of F.is_out (latest start c.push.new.self.items) l os) rest h))));
      before =
          subst (λ u. BeforeFirst F.is_before F.slot_of u c.split_at.result.1.now) (sym last_is)
          (subst (λ l. BeforeFirst F.is_before F.slot_of t l) (sym rest) (first_of_rest F.slot_of F.next F.is_out F.is_before g.met.F.Fold.stays_before t n (others F.slot_of F.next F.is_out n xs) above
          (g.met.F.Fold.goes_before s n (group F.slot_of F.next F.is_out n xs) (group_in_slot F.slot_of n xs) (take_rises g.F.Item.Ord.cmp F.key_of (group_count F.slot_of n xs) xs c.loop-rest.invariant.rising) (at_first F.slot_of F.next F.is_out F.is_before s n xs first c.loop-rest.invariant.before))));
      rising = rw rest (drop_rises g.F.Item.Ord.cmp F.key_of (group_count F.slot_of n xs) xs c.loop-rest.invariant.rising);
      paid = rw rest (omega (arith, ap length (slots_group F.slot_of n xs b.rise b.low b.first), c.loop-rest.invariant.paid, c.in_ok-next.ensures.spent));
    }

pub returns-clause-states : goal.returns-clause-states
unfolding slots
returns-clause-states g c =
    let F = g.F.Fold in
    let s = latest c.args.start.now c.loop-rest.states.items in
    let none = none_left F.slot_of F.next F.is_out s c.loop-rest.rest.now c.loop-rest-test.ensures in
    sym (append-nil c.loop-rest.states.items) ∙ sym (ap (λ l. c.loop-rest.states.items ++ states F.next F.slot_of s l) none) ∙ c.loop-rest.invariant.states

pub returns-clause-outs : goal.returns-clause-outs
unfolding slots
returns-clause-outs g c =
    let F = g.F.Fold in
    let s = latest c.args.start.now c.loop-rest.states.items in
    let none = none_left F.slot_of F.next F.is_out s c.loop-rest.rest.now c.loop-rest-test.ensures in
    subst (λ l. AreOutsOf F.next F.slot_of F.is_out c.args.start.now c.args.items.now l) (append-nil c.loop-rest.outs.items)
    (c.loop-rest.invariant.outs [] (subst (λ l. AreOutsOf F.next F.slot_of F.is_out s l []) (sym none) refl))
