use Rattle.std.proofs.Common.{◌≡◌, ◌∙◌, ◌<◌, ◌≤◌, ap, sym, ltb, true, false, take, drop, rules}
use Rattle.std.proofs.lemmas.Bool.{ltb-true, ltb-false}
use Rattle.std.proofs.lemmas.List.{take-append-drop}
use Rattle.std.proofs.lemmas.List.Sorted.{IsPartitionPoint-from_clause, IsPartitionedBy-ltb}
use Rattle.late_window.specs.Folding.{below, from}
use Rattle.late_window.proofs.Groups.{slots_rise}
use Rattle.late_window.proofs.Lists.{all_weaker, passing_first}
use Rattle.late_window.proofs.Orders.{non_decreasing}
use Rattle.late_window.proofs.Cuts.{AreCut, below_cut, from_cut}
use Rattle.admission_log.specs.Entries.{slot_in}
use Rattle.admission_log.specs.EntryOrder.{entry_cmp}
use Rattle.tracker_fold.specs.Keys.{key_in}
use Rattle.tracker_fold.specs.Laws.{in_order}
use Rattle.tracker_engine.proofs.showing.count_below.Goals as goal

pub returns : goal.returns
returns c =
    let n = c.args.slot in
    let xs = c.args.entries.now in
    let k = c.partition_point.result in
    let parted = IsPartitionedBy-ltb slot_in xs n (non_decreasing slot_in xs (slots_rise entry_cmp key_in slot_in in_order xs c.requires.rising)) in
    let point = IsPartitionPoint-from_clause (λ x. ltb (slot_in x) n) xs k c.partition_point.ensures.partitioned parted (λ a r q h. search rules) in
    let two = passing_first (λ x. ltb (slot_in x) n) k xs c.partition_point.ensures.bound point.0 point.1 in
    let are_cut : AreCut slot_in n (take k xs) (drop k xs) = record {
      low = all_weaker (λ x. ltb (slot_in x) n ≡ true) (λ x. slot_in x < n) (λ x t. ltb-true (slot_in x) n t) (take k xs) two.0;
      high = all_weaker (λ x. ltb (slot_in x) n ≡ false) (λ x. n ≤ slot_in x) (λ x t. ltb-false (slot_in x) n t) (drop k xs) two.1;
    } in
    record {
      within = c.partition_point.ensures.bound;
      below = sym (below_cut slot_in n (take k xs) (drop k xs) are_cut) ∙ ap (below slot_in n) (take-append-drop k xs);
      rest = sym (from_cut slot_in n (take k xs) (drop k xs) are_cut) ∙ ap (from slot_in n) (take-append-drop k xs);
    }
