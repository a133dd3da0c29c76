use Rattle.std.proofs.Common.{rules, ◌≡◌, ◌++◌, ◌∷◌, [], Some}
use Rattle.tracker_fold.specs.Steps.{plane}
use Rattle.tracker_fold.proofs.Planes.{one_more}
use Rattle.tracker_fold.proofs.Spanned.{all_more}
use Rattle.tracker_fold.proofs.spans.span_plots.Goals as goal

pub loop-entry-preserved : goal.loop-entry-preserved
loop-entry-preserved c =
    let radars = c.args.radars.now in
    let at = c.loop-entry in
    let entry = c.entry-item.result in
    let told : plane radars entry ≡ Some c.in-Some.plot = search rules in
    let pushed : c.push.new.self.items ≡ at.plots.items ++ c.in-Some.plot ∷ [] = c.in_ok-push-in-Some.ensures.items in
    record {
      plots = one_more radars c.args.entries.now at.entry-index entry c.in-Some.plot at.plots.items c.push.new.self.items c.loop-entry-test.true c.entry-item.is told at.invariant.plots pushed;
      all = all_more radars c.args.entries.now at.entry-index entry c.in-Some.plot c.loop-entry-test.true c.entry-item.is told at.invariant.all;
    }
