use Rattle.std.proofs.Common.{◌≡◌, ◌++◌, map, take}
use Rattle.std.specs.Prelude.{filter_map}
use Rattle.recording.specs.Items.{item_octets}
use Rattle.scene_gen.specs.Datagrams.{plot}
use Rattle.scene_gen.proofs.sweeps.Sweep.look.Given as goal

abbrev pub invariant-loop-aircraft : goal.invariant-loop-aircraft
invariant-loop-aircraft l = l.plots.items ≡ l.initial.plots.items ++ map item_octets (filter_map (plot l.self.radar l.time) (take l.aircraft-index l.aircraft-items))
