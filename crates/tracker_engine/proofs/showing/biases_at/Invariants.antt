use Rattle.std.proofs.Common.{◌≡◌, map, take}
use Rattle.plot_geometry.specs.Biases.{bias_of}
use Rattle.tracker_engine.proofs.showing.biases_at.Given as goal

abbrev pub invariant-loop-radar : goal.invariant-loop-radar
invariant-loop-radar l = l.biases.items ≡ map bias_of (take l.radar-index l.radar-items)
