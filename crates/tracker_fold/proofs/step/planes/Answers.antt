use Rattle.std.proofs.Common.{rules, ◌≡◌, ◌∙◌, sym, ◌++◌, ◌∷◌, [], Some, None}
use Rattle.tracker_fold.specs.Steps.{plane}
use Rattle.tracker_fold.proofs.Planes.{one_more, none_more}
use Rattle.tracker_fold.proofs.step.planes.Goals as goal
use Rattle.tracker_fold.proofs.step.planes.Goals.{in-Some+in_ok-push, in_default}

pub loop-entry-preserved : goal.loop-entry-preserved
loop-entry-preserved c =
    let radars = c.args.radars.now in
    let entry = c.entry-item.result in
    elim c.match-plane.branch [
      | in-Some+in_ok-push w ↦ (let told : plane radars entry ≡ Some w.in-Some.plot = search rules in
          let pushed : c.match-plane.plots.items ≡ c.loop-entry.plots.items ++ w.in-Some.plot ∷ [] = search rules in
          one_more radars c.args.entries.now c.loop-entry.entry-index entry w.in-Some.plot c.loop-entry.plots.items c.match-plane.plots.items c.loop-entry-test.true c.entry-item.is told c.loop-entry.invariant pushed)
      | in_default w ↦ (let told : plane radars entry ≡ None = search rules in
          let kept : c.loop-entry.plots.items ≡ c.match-plane.plots.items = search rules in
          sym kept ∙ none_more radars c.args.entries.now c.loop-entry.entry-index entry c.loop-entry.plots.items c.loop-entry-test.true c.entry-item.is told c.loop-entry.invariant)
    ]
