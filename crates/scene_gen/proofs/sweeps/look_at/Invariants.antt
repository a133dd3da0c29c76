use Rattle.std.proofs.Common.{◌≡◌, map, take}
use Rattle.std.specs.List.{flat_map}
use Rattle.recording.specs.Items.{item_octets}
use Rattle.scene_gen.specs.Sweeps.{seen_by}
use Rattle.scene_gen.proofs.sweeps.look_at.Given as goal

abbrev pub invariant-loop-sweep : goal.invariant-loop-sweep
invariant-loop-sweep l = l.plots.items ≡ map item_octets (flat_map (seen_by l.time) (take l.sweep-index l.sweeps))
