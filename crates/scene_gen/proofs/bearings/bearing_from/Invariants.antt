use Rattle.std.proofs.Common.{◌≡◌, ◌+◌, ◌^◌, ◌≤◌}
use Rattle.scene_gen.specs.Bearings.{bearing_from}
use Rattle.scene_gen.proofs.bearings.bearing_from.Given as goal

-- the digits that are left make the angle that is sought
abbrev pub invariant-loop-k : goal.invariant-loop-k
invariant-loop-k l = record {
  left : bearing_from l.k l.angle l.point.0 l.point.1 ≡ bearing_from 14 l.start l.point.0 l.point.1;
  room : l.angle + 2 ^ l.k ≤ 2 ^ 16;
}
