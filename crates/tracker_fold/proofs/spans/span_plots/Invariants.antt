use Rattle.std.proofs.Common.{◌≡◌, take}
use Rattle.tracker_fold.specs.Spans.{AreAllPlots}
use Rattle.tracker_fold.specs.Steps.{planes}
use Rattle.tracker_fold.proofs.spans.span_plots.Given as goal

abbrev pub invariant-loop-entry : goal.invariant-loop-entry
invariant-loop-entry l = record {
  plots : l.plots.items ≡ planes l.radars (take l.entry-index l.entries);
  all : AreAllPlots l.radars (take l.entry-index l.entries);
}
