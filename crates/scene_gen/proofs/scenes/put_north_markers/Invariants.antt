use Rattle.std.proofs.Common.{◌≡◌, ◌++◌, take}
use Rattle.scene_gen.specs.Radars.{radars}
use Rattle.scene_gen.proofs.Marking.{marks}
use Rattle.scene_gen.proofs.scenes.put_north_markers.Given as goal

abbrev pub invariant-loop-radar : goal.invariant-loop-radar
invariant-loop-radar l = l.octets.items ≡ l.initial.octets.items ++ marks l.time (take l.radar-index radars)
