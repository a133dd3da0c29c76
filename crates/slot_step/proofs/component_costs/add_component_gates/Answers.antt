use Rattle.std.proofs.Common.{rules, ◌∙◌, ◌++◌, ◌∷◌, [], ap, sym, ℕ, ltb}
use Rattle.std.proofs.lemmas.List.Sorted.{IsPartitionPoint-from_clause, IsPartitionedBy-ltb}
use Rattle.assignment_dual.specs.Problems.{Edge, edge_at}
use Rattle.slot_step.specs.ComponentEdges.{own_edge}
use Rattle.slot_step.proofs.ComponentEdges.{index_point, numbers_rise, map_more}
use Rattle.slot_step.proofs.component_costs.add_component_gates.Goals as goal

pub loop-gate-preserved : goal.loop-gate-preserved
loop-gate-preserved c =
    let tracks = c.args.tracks.now in
    let k = c.loop-gate.gate-index in
    let gate : Edge = edge_at c.args.gates.now k in
    let point = IsPartitionPoint-from_clause (λ m. ltb m gate.1) tracks c.partition_point-track.result c.partition_point-track.ensures.partitioned (IsPartitionedBy-ltb (λ m. m) tracks gate.1 (numbers_rise tracks c.requires.rising)) (λ a r f h. search rules) in
    c.in_ok-push.ensures.ok
    ∙ ap (λ (n : ℕ). c.loop-gate.own ++ (c.args.index, n, gate.2) ∷ []) (sym (index_point tracks gate.1 c.partition_point-track.result c.partition_point-track.ensures.bound point))
    ∙ map_more (own_edge tracks c.args.index) c.args.gates.now k (0, 0, 0) c.loop-gate.own c.args.own.now c.loop-gate-test.true c.loop-gate.invariant
