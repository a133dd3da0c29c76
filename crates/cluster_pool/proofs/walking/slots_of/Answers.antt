use Rattle.std.proofs.Common.{◌≡◌, ◌∙◌, ap, sym, arith, List, [], ◌∷◌, ◌++◌, ℕ, drop, append_assoc, append-nil}
use Rattle.late_window.specs.Folding.{group_count, slots}
use Rattle.late_window.proofs.Groups.{BeginsWith, begins_with, group_within, slots_rise, low_all, slots_group, drop_rises}
use Rattle.late_window.proofs.Cuts.{no_items}
use Rattle.cluster_pool.proofs.walking.slots_of.Goals as goal

pub split_at-requires : goal.split_at-requires
split_at-requires g c = omega (arith, c.group_len.ensures, group_within g.F.Fold.slot_of c.slot-slot.result c.loop-rest.rest.now)

pub loop-rest-preserved : goal.loop-rest-preserved
loop-rest-preserved g c =
    let slot = g.F.Fold.slot_of in
    let n = c.slot-slot.result in
    let xs = c.loop-rest.rest.now in
    let filled = c.loop-rest.filled.items in
    let first : BeginsWith slot n xs = begins_with slot n xs _ c.loop-rest-test.ensures c.index-rest-0.is c.slot-slot.ensures in
    let r = slots_rise g.F.Item.Ord.cmp g.F.Fold.key_of slot g.met.F.Fold.in_order xs c.loop-rest.invariant.rising in
    let rest : c.split_at.result.1.now ≡ drop (group_count slot n xs) xs = c.split_at.ensures.back ∙ ap (λ k. drop k xs) c.group_len.ensures in
    let pushed : c.push.new.self.items ≡ filled ++ n ∷ [] = c.in_ok-push.ensures.items in
    record {
      slots = c.loop-rest.invariant.slots ∙ ap (λ (l : List ℕ). filled ++ l) (slots_group slot n xs r (low_all slot n xs r first) first)
          ∙ sym (append_assoc filled (n ∷ []) (slots slot (drop (group_count slot n xs) xs))) ∙ (λ i. sym pushed i ++ slots slot (sym rest i));
      rising = rw rest (drop_rises g.F.Item.Ord.cmp g.F.Fold.key_of (group_count slot n xs) xs c.loop-rest.invariant.rising);
    }

pub returns : goal.returns
returns g c =
    let filled = c.loop-rest.filled.items in
    sym (append-nil filled) ∙ sym (ap (λ (l : List ℕ). filled ++ l) (no_items g.F.Fold.slot_of c.loop-rest.rest.now c.loop-rest-test.ensures)) ∙ sym c.loop-rest.invariant.slots
