use Rattle.std.proofs.Common.{◌≡◌, take}
use Rattle.slot_step.specs.Components.{edge_pairs}
use Rattle.slot_step.proofs.pairing.pairs_of.Given as goal

abbrev pub invariant-loop-edge : goal.invariant-loop-edge
invariant-loop-edge l = l.pairs.items ≡ edge_pairs (take l.edge-index l.edges)
