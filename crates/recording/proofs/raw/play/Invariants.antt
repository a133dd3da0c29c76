use Rattle.std.proofs.Common.{length, ◌-◌, ◌≤◌, IfSome}
use Rattle.recording.specs.Playing.{InRange}
use Rattle.recording.proofs.Played.{HasProgress}
use Rattle.recording.proofs.raw.play.Given as goal

abbrev pub invariant-loop-from : goal.invariant-loop-from
invariant-loop-from l = record {
  within : l.from ≤ length l.bytes;
  in_range : IfSome l.player.clock InRange;
  progress : HasProgress l.bytes l.from l.player;
}

abbrev pub decreases-loop-from : goal.decreases-loop-from
decreases-loop-from l = length l.bytes - l.from
