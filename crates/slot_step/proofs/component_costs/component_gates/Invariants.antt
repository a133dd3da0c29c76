use Rattle.std.proofs.Common.{◌≡◌, ◌++◌, drop}
use Rattle.slot_step.specs.ComponentEdges.{component_edges}
use Rattle.slot_step.proofs.component_costs.component_gates.Given as goal

abbrev pub invariant-loop-index : goal.invariant-loop-index
invariant-loop-index l = l.gates ++ component_edges l.edges l.component.tracks l.index (drop l.index l.component.plots) ≡ component_edges l.edges l.component.tracks 0 l.component.plots
