use Rattle.std.proofs.Common.{◌≡◌, ◌∙◌, ◌<◌, ◌≤◌, ap, sym, ltb, true, false, take, drop, rules}
use Rattle.std.proofs.lemmas.Bool.{ltb-true, ltb-false}
use Rattle.std.proofs.lemmas.List.{take-append-drop}
use Rattle.std.proofs.lemmas.List.Sorted.{IsPartitionPoint-from_clause, IsPartitionedBy-ltb}
use Rattle.late_window.specs.Folding.{below, from}
use Rattle.late_window.proofs.Groups.{slots_rise}
use Rattle.late_window.proofs.Lists.{all_weaker, passing_first}
use Rattle.late_window.proofs.Orders.{non_decreasing}
use Rattle.late_window.proofs.Cuts.{AreCut, below_cut, from_cut}
use Rattle.late_window.proofs.running.len_below.Goals as goal

pub returns : goal.returns
returns g c =
    let slot = g.F.Fold.slot_of in
    let n = c.args.slot in
    let xs = c.args.items.now in
    let k = c.partition_point.result in
    let parted = IsPartitionedBy-ltb slot xs n (non_decreasing slot xs (slots_rise g.F.Item.Ord.cmp g.F.Fold.key_of slot g.met.F.Fold.in_order xs c.requires.rising)) in
    let point = IsPartitionPoint-from_clause (λ x. ltb (slot x) n) xs k c.partition_point.ensures.partitioned parted (λ a r q h. search rules) in
    let two = passing_first (λ x. ltb (slot x) n) k xs c.partition_point.ensures.bound point.0 point.1 in
    let are_cut : AreCut slot n (take k xs) (drop k xs) = record {
      low = all_weaker (λ x. ltb (slot x) n ≡ true) (λ x. slot x < n) (λ x t. ltb-true (slot x) n t) (take k xs) two.0;
      high = all_weaker (λ x. ltb (slot x) n ≡ false) (λ x. n ≤ slot x) (λ x t. ltb-false (slot x) n t) (drop k xs) two.1;
    } in
    record {
      within = c.partition_point.ensures.bound;
      below = sym (below_cut slot n (take k xs) (drop k xs) are_cut) ∙ ap (below slot n) (take-append-drop k xs);
      rest = sym (from_cut slot n (take k xs) (drop k xs) are_cut) ∙ ap (from slot n) (take-append-drop k xs);
    }
