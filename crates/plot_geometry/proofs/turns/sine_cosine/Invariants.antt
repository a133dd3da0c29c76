use Rattle.std.proofs.Common.{◌≡◌, ◌+◌, ◌-◌, ◌*◌, ◌^◌, ◌≤◌}
use Rattle.plot_geometry.specs.Turns.{turns, sine_cosine, norm}
use Rattle.plot_geometry.proofs.turns.sine_cosine.Given as goal

-- the bits that are left turn what is there on to the sine and the cosine
abbrev pub invariant-loop-k : goal.invariant-loop-k
invariant-loop-k l = record {
  turned : turns l.k l.angle (l.s, l.c) ≡ sine_cosine l.angle;
  norm : norm l.s l.c ≤ 2 ^ 80 + (16 - l.k) * 2 ^ 44;
}
