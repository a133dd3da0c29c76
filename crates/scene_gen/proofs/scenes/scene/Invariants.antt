use Rattle.std.proofs.Common.{◌≡◌, ◌*◌, ◌++◌}
use Rattle.std.specs.List.{flat_map, range_with_len}
use Rattle.recording.specs.declared.header.Header.TheVariants.{First}
use Rattle.recording.specs.Items.{item_octets}
use Rattle.recording.specs.Readings.{header_octets}
use Rattle.scene_gen.specs.Datagrams.{start}
use Rattle.scene_gen.specs.Draws.{after, generator_of}
use Rattle.scene_gen.specs.Fleets.{fleet_from}
use Rattle.scene_gen.specs.Scenes.{coming, items_at}
use Rattle.scene_gen.specs.Skies.{IsReady, IsSky}
use Rattle.scene_gen.proofs.scenes.scene.Given as goal

abbrev pub invariant-loop-time : goal.invariant-loop-time
invariant-loop-time l = record {
  ready : IsReady l.sky;
  sky : IsSky (fleet_from (generator_of l.seed) l.aircraft) (after (9 * l.aircraft) (generator_of l.seed)) l.seconds l.late l.time l.time l.sky;
  octets : l.octets.items ≡ header_octets First start ++ flat_map item_octets (flat_map (items_at (coming l.seed l.aircraft l.seconds l.late) l.seconds) (range_with_len 0 l.time));
}
