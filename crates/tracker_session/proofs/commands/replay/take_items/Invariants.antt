use Rattle.std.proofs.Common.{◌≤◌, take, drop}
use Rattle.io_traits.specs.Host.{IsBoundFor}
use Rattle.io_traits.specs.declared.host.Place.{Place}
use Rattle.io_traits.specs.declared.host.Way.{Way}
use Rattle.recording.specs.Answers.{items_of}
use Rattle.tracker_session.specs.Replay.{empty_log}
use Rattle.tracker_session.specs.ReplayScript.{ending, items_script}
use Rattle.tracker_session.specs.Work.{IsSpentOn}
use Rattle.tracker_session.proofs.Touched.{WritesBoth}
use Rattle.tracker_session.proofs.Underway.{Both, GoesOn, IsUnderway}
use Rattle.tracker_session.proofs.commands.replay.take_items.Given as goal

-- What is left of the script goes on what was done of it. Output and Prices alone were written, and the steps are those of the editions so far.
abbrev pub invariant-loop-item : goal.invariant-loop-item
invariant-loop-item g l =
    let state = g.H.Host.state in
    let items = items_of l.reading.items.items in
    let next = ending l.tells_biases l.reading.fault items in
    (u : IsUnderway l.settings l.tells_biases l.reading.start (take l.item-index items) l.run l.editions)
    × IsBoundFor Way.Write (state l.host) Place.Output
    × IsBoundFor Way.Write (state l.host) Place.Prices
    × Both (GoesOn (λ log. items_script l.settings next log (drop l.item-index items)) (items_script l.settings next (empty_log l.reading.start) items) (state l.fn.host) (state l.host) u.progress.log) (IsSpentOn u.progress.log l.fn.steps l.steps)
    × WritesBoth (state l.fn.host) (state l.host)
    × (l.fn.steps ≤ l.steps)
