use Rattle.std.proofs.Common.{◌≡◌, ◌∙◌, ap, sym, List, arith, subst}
use Rattle.assignment_dual.specs.Problems.{Edge, Problem, IsProblem}
use Rattle.assignment_dual.specs.Parts.{IsPartOf}
use Rattle.slot_step.specs.ComponentEdges.{component_edges}
use Rattle.slot_step.proofs.ComponentProblem.{own, few_plots, few_tracks, own_is, own_part}
use Rattle.slot_step.proofs.component_costs.component_costs.Goals as goal

pub component_gates-requires-clause-plots : goal.component_gates-requires-clause-plots
component_gates-requires-clause-plots c = omega (arith, c.requires.plots, few_plots c.args.whole.now (subst IsProblem c.whole.view_is c.whole.invariant) c.args.component.now c.requires.component)

pub component_gates-requires-clause-tracks : goal.component_gates-requires-clause-tracks
component_gates-requires-clause-tracks c = omega (arith, c.requires.tracks, few_tracks c.args.whole.now (subst IsProblem c.whole.view_is c.whole.invariant) c.args.component.now c.requires.component)

pub overflow_cast-result : goal.overflow_cast-result
overflow_cast-result c = omega (arith, c.len-2.ensures, c.requires.plots, few_plots c.args.whole.now (subst IsProblem c.whole.view_is c.whole.invariant) c.args.component.now c.requires.component)

pub overflow_cast-result-2 : goal.overflow_cast-result-2
overflow_cast-result-2 c = omega (arith, c.len-3.ensures, c.requires.tracks, few_tracks c.args.whole.now (subst IsProblem c.whole.view_is c.whole.invariant) c.args.component.now c.requires.component)

edges_are : (c : goal.After-len-3) → component_edges c.args.whole.now.edges c.args.component.now.tracks 0 c.args.component.now.plots ≡ c.in_ok-gates.gates
edges_are c =
    let part = c.args.component.now in
    sym (c.in_ok-gates.ensures ∙ ap (λ (es : List Edge). component_edges es part.tracks 0 part.plots) (c.as_slice.ensures ∙ ap (λ (p : Problem). p.edges) c.whole.view_is))

made : (c : goal.After-len-3) → own c.args.whole.now (subst IsProblem c.whole.view_is c.whole.invariant) c.args.component.now c.requires.component ≡ record { plots = c.len-2.result; tracks = c.len-3.result; edges = c.in_ok-gates.gates }
made c = λ i. record { plots = sym c.len-2.ensures i; tracks = sym c.len-3.ensures i; edges = edges_are c i }

pub invariant_of-result : goal.invariant_of-result
invariant_of-result c = subst IsProblem (made c) (own_is c.args.whole.now (subst IsProblem c.whole.view_is c.whole.invariant) c.args.component.now c.requires.component)

pub returns-clause-part : goal.returns-clause-part
returns-clause-part c = subst (IsPartOf c.args.whole.now c.args.component.now.plots c.args.component.now.tracks) (made c) (own_part c.args.whole.now (subst IsProblem c.whole.view_is c.whole.invariant) c.args.component.now c.requires.component)
