use Rattle.std.proofs.Common.{◌≡◌, map, take}
use Rattle.std.specs.List.{All}
use Rattle.scene_gen.specs.Radars.{radars}
use Rattle.scene_gen.specs.Sweeps.{HasByPhase, IsWhole}
use Rattle.scene_gen.proofs.sweeps.sweeps_of.Given as goal

abbrev pub invariant-loop-radar : goal.invariant-loop-radar
invariant-loop-radar l = record {
  radars_are : map (λ s. s.radar) l.sweeps.items ≡ take l.radar-index radars;
  whole : All IsWhole l.sweeps.items;
  by_phase : All (HasByPhase l.fleet) l.sweeps.items;
}
