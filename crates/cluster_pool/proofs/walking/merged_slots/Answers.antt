use Rattle.std.proofs.Common.{◌≡◌, ◌∙◌, ◌++◌, ◌∷◌, [], ap, sym, arith, length, rules}
use Rattle.std.specs.Vec.Iter.{into_iter_items, into_iter_len}
use Rattle.late_window.specs.Folding.{slots}
use Rattle.span_clusters.specs.Parts.{IsSplitting}
use Rattle.span_clusters.proofs.Separating.{Separating, SeparatingLaws}
use Rattle.cluster_pool.proofs.Ways.{underway_first, may_merge, one_slot_more, run_done, outs_done}
use Rattle.cluster_pool.proofs.walking.merged_slots.Goals as goal

pub loop-slot-init : goal.loop-slot-init
loop-slot-init g c =
    let F = g.F.Fold in
    let M = g.F.Separable in
    let left = into_iter_items c.into_iter-slot-iterator.result in
    let same : left ≡ slots F.slot_of c.args.items.now = c.into_iter-slot-iterator.ensures.into_iter_gives.0 ∙ c.in_ok-filled.ensures in
    record {
      underway = rw (c.new-states.ensures.items, c.new-outs.ensures.items) (underway_first F.next F.slot_of F.is_out c.args.items.now (λ s. IsSplitting F.slot_of F.is_before M.is_beside M.merged s c.args.items.now c.args.done.items) c.args.done.items left c.in_ok-walks.walks.items same c.in_ok-walks.ensures);
      count = let n : into_iter_len c.into_iter-slot-iterator.result ≡ length (into_iter_items c.into_iter-slot-iterator.result) = search rules in n;
    }

pub merged_slot-requires : goal.merged_slot-requires
merged_slot-requires g c =
    let S = g.row.F-State.Denot in
    let I = g.row.F-Item.Denot in
    let K = g.row.F-Key.Denot in
    let O = g.row.F-Out.Denot in
    let F : Separating S I K O = record {
      cmp = g.F.Item.Ord.cmp;
      key = g.F.Fold.key_of;
      slot = g.F.Fold.slot_of;
      next = g.F.Fold.next;
      is_out = g.F.Fold.is_out;
      is_before = g.F.Fold.is_before;
      is_beside = g.F.Separable.is_beside;
      merged = g.F.Separable.merged;
      gates = g.F.Separable.gates;
      both = g.F.Separable.both;
    } in
    let L : SeparatingLaws F = record {
      stays_before = g.met.F.Fold.stays_before;
      goes_before = g.met.F.Fold.goes_before;
      beside_back = g.met.F.Separable.beside_back;
      beside_merged = g.met.F.Separable.beside_merged;
      beside_next = g.met.F.Separable.beside_next;
      merged_back = g.met.F.Separable.merged_back;
      merged_before = g.met.F.Separable.merged_before;
      gates_merged = g.met.F.Separable.gates_merged;
      next_merged = g.met.F.Separable.next_merged;
      out_merged = g.met.F.Separable.out_merged;
      out_alone = g.met.F.Separable.out_alone;
      next_rested = g.met.F.Separable.next_rested;
      out_rested = g.met.F.Separable.out_rested;
      gates_rested = g.met.F.Separable.gates_rested;
    } in
    let s = c.requires.splitting.0 in
    let zs = c.args.items.now in
    let parts = c.args.done.items in
    let at = c.loop-slot in
    let left = into_iter_items c.next.new.self in
    let steps : into_iter_items at.slot-iterator ≡ c.in-Some.slot ∷ left = c.in-Some.ensures.steps.0 in
    may_merge F L g.met.F.Fold.in_order zs s parts at.yielded c.in-Some.slot (into_iter_items at.slot-iterator) left at.walks.items at.states.items at.outs.items c.requires.rising c.requires.splitting.1 c.requires.clear c.requires.several at.invariant.underway steps

pub loop-slot-preserved : goal.loop-slot-preserved
loop-slot-preserved g c =
    let S = g.row.F-State.Denot in
    let I = g.row.F-Item.Denot in
    let K = g.row.F-Key.Denot in
    let O = g.row.F-Out.Denot in
    let F : Separating S I K O = record {
      cmp = g.F.Item.Ord.cmp;
      key = g.F.Fold.key_of;
      slot = g.F.Fold.slot_of;
      next = g.F.Fold.next;
      is_out = g.F.Fold.is_out;
      is_before = g.F.Fold.is_before;
      is_beside = g.F.Separable.is_beside;
      merged = g.F.Separable.merged;
      gates = g.F.Separable.gates;
      both = g.F.Separable.both;
    } in
    let L : SeparatingLaws F = record {
      stays_before = g.met.F.Fold.stays_before;
      goes_before = g.met.F.Fold.goes_before;
      beside_back = g.met.F.Separable.beside_back;
      beside_merged = g.met.F.Separable.beside_merged;
      beside_next = g.met.F.Separable.beside_next;
      merged_back = g.met.F.Separable.merged_back;
      merged_before = g.met.F.Separable.merged_before;
      gates_merged = g.met.F.Separable.gates_merged;
      next_merged = g.met.F.Separable.next_merged;
      out_merged = g.met.F.Separable.out_merged;
      out_alone = g.met.F.Separable.out_alone;
      next_rested = g.met.F.Separable.next_rested;
      out_rested = g.met.F.Separable.out_rested;
      gates_rested = g.met.F.Separable.gates_rested;
    } in
    let s = c.requires.splitting.0 in
    let zs = c.args.items.now in
    let parts = c.args.done.items in
    let at = c.loop-slot in
    let left = into_iter_items c.next.new.self in
    let steps : into_iter_items at.slot-iterator ≡ c.in-Some.slot ∷ left = c.in-Some.ensures.steps.0 in
    let one : c.push.new.self.items ≡ at.states.items ++ c.in_ok-after.state ∷ [] = search rules in
    let other : c.push-in-loop-slot.new.self.items ≡ at.outs.items ++ c.in_ok-after.out ∷ [] = search rules in
    record {
      underway = rw (one, other) (one_slot_more F L g.met.F.Fold.in_order zs s parts at.yielded c.in-Some.slot (into_iter_items at.slot-iterator) left at.walks.items c.in_ok-after.after.items at.states.items at.outs.items c.in_ok-after.state c.in_ok-after.out c.requires.rising c.requires.splitting.1 c.requires.clear at.invariant.underway steps c.in_ok-after.ensures);
      count = let gone = c.in-Some.ensures.steps.1 in let was = at.invariant.count in let short = ap length steps in omega (arith, gone, was, short);
    }

pub returns-clause-states : goal.returns-clause-states
returns-clause-states g c =
    let F = g.F.Fold in
    let M = g.F.Separable in
    let at = c.loop-slot in
    let none : length (into_iter_items at.slot-iterator) ≡ 0 = sym at.invariant.count ∙ c.in-None.ensures.steps.0 in
    λ s i. run_done F.next F.slot_of F.is_out c.args.items.now (λ s. IsSplitting F.slot_of F.is_before M.is_beside M.merged s c.args.items.now c.args.done.items) c.args.done.items at.yielded (into_iter_items at.slot-iterator) at.walks.items at.states.items at.outs.items at.invariant.underway none s i

pub returns-clause-outs : goal.returns-clause-outs
returns-clause-outs g c =
    let F = g.F.Fold in
    let M = g.F.Separable in
    let at = c.loop-slot in
    let none : length (into_iter_items at.slot-iterator) ≡ 0 = sym at.invariant.count ∙ c.in-None.ensures.steps.0 in
    λ s i. outs_done F.next F.slot_of F.is_out c.args.items.now (λ s. IsSplitting F.slot_of F.is_before M.is_beside M.merged s c.args.items.now c.args.done.items) c.args.done.items at.yielded (into_iter_items at.slot-iterator) at.walks.items at.states.items at.outs.items at.invariant.underway none s i
