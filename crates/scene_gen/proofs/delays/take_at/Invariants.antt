use Rattle.std.proofs.Common.{◌≡◌, ◌++◌, take}
use Rattle.std.specs.List.{flat_map}
use Rattle.scene_gen.proofs.delays.take_at.Given as goal

abbrev pub invariant-loop-plot : goal.invariant-loop-plot
invariant-loop-plot l = l.octets.items ≡ l.initial.octets.items ++ flat_map (λ octets. octets) (take l.plot-index l.plot-items)
