use Rattle.std.proofs.Common.{◌≡◌, take}
use Rattle.slot_step.specs.Moving.{moved}
use Rattle.slot_step.specs.Tracker.{tracking}
use Rattle.slot_step.proofs.moving.move_tracks.Given as goal

abbrev pub invariant-loop-index : goal.invariant-loop-index
invariant-loop-index l = l.tracks.items ≡ moved (tracking l.life) l.fn.tracks.items (take l.index l.plots) (take l.index l.pairing)
