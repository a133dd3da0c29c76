use Rattle.std.proofs.Common.{◌∙◌, sym, subst}
use Rattle.span_clusters.specs.Jobs.{AreParts}
use Rattle.track_parts.specs.Tracking.{slot_of_plot, key_of_plot, IsBefore, SharesNone}
use Rattle.part_load.proofs.Rising.{before_first}
use Rattle.part_load.proofs.parting.parts_of_span.Goals as goal

pub partition-requires-clause-before : goal.partition-requires-clause-before
partition-requires-clause-before g c = before_first c.args.state.now c.args.slot c.args.plots.now c.requires.before c.requires.first

pub crossings-requires : goal.crossings-requires
crossings-requires g c =
    let splitting = c.in_ok-jobs.ensures.splitting c.args.slot c.requires.before in
    let apart = c.splitting_parts.ensures c.args.state.now c.args.plots.now c.in_ok-jobs.jobs.items c.requires.rising splitting c.in_ok-jobs.ensures.numbers in
    record { parts = subst (AreParts slot_of_plot key_of_plot IsBefore SharesNone) (sym (c.deref.ensures.value ∙ c.in_ok-done.ensures)) apart }
