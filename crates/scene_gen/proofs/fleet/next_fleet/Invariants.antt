use Rattle.std.proofs.Common.{◌≡◌, ◌*◌}
use Rattle.scene_gen.specs.Draws.{after}
use Rattle.scene_gen.specs.Fleets.{fleet_from}
use Rattle.scene_gen.proofs.fleet.next_fleet.Given as goal

abbrev pub invariant-loop-number : goal.invariant-loop-number
invariant-loop-number l = record {
  fleet : l.fleet.items ≡ fleet_from l.initial.generator l.number;
  drawn : l.generator ≡ after (9 * l.number) l.initial.generator;
}
