use Rattle.std.proofs.Common.{rules, ◌≡◌, ◌-◌, List, length, take, drop, ltb, leb, arith}
use Rattle.std.proofs.lemmas.List.{take_all, length-drop}
use Rattle.std.proofs.lemmas.List.Sorted.{IsPartitionPoint-from_clause, IsPartitionedBy-ltb}
use Rattle.assignment_dual.specs.Problems.{Edge}
use Rattle.slot_step.proofs.ComponentEdges.{plots_rise, in_halves, edges_cut}
use Rattle.slot_step.proofs.component_costs.gates_at.Goals as goal

pub returns : goal.returns
returns c =
    let es = c.args.edges.now in
    let plot = c.args.plot in
    let from = c.partition_point-from.result in
    let count = c.partition_point-count.result in
    let rest : List Edge = take (length es - from) (drop from es) in
    let rest_is : rest ≡ drop from es = take_all (length es - from) (drop from es) (omega (arith, length-drop from es)) in
    let first = IsPartitionPoint-from_clause (λ (e : Edge). ltb e.0 plot) es from c.partition_point-from.ensures.partitioned (IsPartitionedBy-ltb (λ e. e.0) es plot (plots_rise es c.requires)) (λ a r f k. search rules) in
    let second = IsPartitionPoint-from_clause (λ (e : Edge). leb e.0 plot) rest count c.partition_point-count.ensures.partitioned (in_halves es rest from plot rest_is c.requires) (λ a r f k. search rules) in
    edges_cut es rest plot from count rest_is c.partition_point-from.ensures.bound c.partition_point-count.ensures.bound first second
