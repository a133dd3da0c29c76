use Rattle.std.proofs.Common.{◌≤◌, take, false}
use Rattle.recording.specs.Answers.{items_of}
use Rattle.tracker_session.specs.Totals.{AreCounted}
use Rattle.tracker_session.specs.Work.{IsSpentOn}
use Rattle.tracker_session.proofs.Underway.{Both, IsUnderway}
use Rattle.tracker_session.proofs.commands.exercise.take_items.Given as goal

-- The items so far are taken, and the editions of their log are given and counted; and so are their steps.
abbrev pub invariant-loop-item : goal.invariant-loop-item
invariant-loop-item g l = (u : IsUnderway l.settings false l.reading.start (take l.item-index (items_of l.reading.items.items)) l.run l.editions) × Both (AreCounted l.settings u.progress.log l.octets l.certificates) (IsSpentOn u.progress.log l.fn.steps l.steps) × (l.fn.steps ≤ l.steps)
