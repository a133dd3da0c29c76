use Rattle.std.proofs.Common.{◌≡◌, ◌++◌, map, take}
use Rattle.slot_step.specs.ComponentEdges.{own_edge}
use Rattle.slot_step.proofs.component_costs.add_component_gates.Given as goal

abbrev pub invariant-loop-gate : goal.invariant-loop-gate
invariant-loop-gate l = l.own ≡ l.initial.own ++ map (own_edge l.tracks l.index) (take l.gate-index l.gates)
