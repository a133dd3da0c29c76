use Rattle.std.proofs.Common.{◌∙◌, ◌+◌, ap, sym, subst}
use Rattle.late_window.specs.Folding.{Rises, below}
use Rattle.late_window.proofs.Groups.{drop_rises}
use Rattle.admission_log.specs.Entries.{slot_in}
use Rattle.admission_log.specs.EntryOrder.{entry_cmp}
use Rattle.tracker_fold.specs.Keys.{key_in}
use Rattle.tracker_engine.proofs.States.{slot_between}
use Rattle.tracker_engine.proofs.showing.of_slot.Goals as goal

pub count_below-requires-2 : goal.count_below-requires-2
count_below-requires-2 c = record { rising = subst (Rises entry_cmp key_in) (sym c.split_at.ensures.back) (drop_rises entry_cmp key_in c.count_below.result c.args.entries.now c.requires.rising) }

pub returns : goal.returns
returns c =
    let n = c.args.slot in
    c.split_at-2.ensures.front ∙ c.count_below-2.ensures.below ∙ ap (below slot_in (n + 1)) (c.split_at.ensures.back ∙ c.count_below.ensures.rest) ∙ slot_between slot_in n c.args.entries.now
