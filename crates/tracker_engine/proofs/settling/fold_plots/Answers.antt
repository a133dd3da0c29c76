use Rattle.std.proofs.Common.{sym, subst, List}
use Rattle.late_window.specs.Folding.{AreOutsOf, slots}
use Rattle.slot_step.specs.declared.certs.KeyedCert.{KeyedCert}
use Rattle.slot_step.specs.Told.{AreTold}
use Rattle.slot_step.specs.Tracker.{step_tracks}
use Rattle.track_parts.specs.Tracking.{slot_of_plot}
use Rattle.track_parts.proofs.Runs.{all_told, all_whole}
use Rattle.tracker_fold.specs.Spans.{AreWhole}
use Rattle.tracker_engine.proofs.Parted.{told_are}
use Rattle.tracker_engine.proofs.settling.fold_plots.Goals as goal

pub span_outs-requires : goal.span_outs-requires
span_outs-requires g c =
    let s = c.args.state in
    let plots = c.args.plots.now in
    let outs = c.in_ok-runs.told.items in
    all_whole s.life s.table plots (slots slot_of_plot plots) outs (told_are s.life s.table c.of-tracks.result c.of-tracks.ensures.life c.of-tracks.ensures.table plots outs c.in_ok-runs.ensures.outs)

pub returns-clause-outs : goal.returns-clause-outs
returns-clause-outs g c =
    let s = c.args.state in
    let plots = c.args.plots.now in
    let outs = c.in_ok-runs.told.items in
    subst (λ (o : List (List KeyedCert)). AreOutsOf (step_tracks s.life) slot_of_plot (AreTold s.life) s.table plots o) (sym c.in_ok-outs.ensures)
    (all_told s.life s.table plots (slots slot_of_plot plots) outs (told_are s.life s.table c.of-tracks.result c.of-tracks.ensures.life c.of-tracks.ensures.table plots outs c.in_ok-runs.ensures.outs))

pub returns-clause-whole : goal.returns-clause-whole
returns-clause-whole g c =
    let s = c.args.state in
    let plots = c.args.plots.now in
    let outs = c.in_ok-runs.told.items in
    subst AreWhole (sym c.in_ok-outs.ensures)
    (all_whole s.life s.table plots (slots slot_of_plot plots) outs (told_are s.life s.table c.of-tracks.result c.of-tracks.ensures.life c.of-tracks.ensures.table plots outs c.in_ok-runs.ensures.outs))
