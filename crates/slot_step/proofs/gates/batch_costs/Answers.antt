use Rattle.std.proofs.Common.{List, subst, sym, length}
use Rattle.assignment_dual.specs.Problems.{Edge, IsProblem}
use Rattle.slot_step.specs.Tracker.{track_gate}
use Rattle.slot_step.specs.Problems.{IsProblemOf}
use Rattle.slot_step.proofs.gates.batch_costs.Goals as goal

pub invariant_of-result : goal.invariant_of-result
invariant_of-result c = subst (λ (es : List Edge). IsProblem (record { plots = length c.args.plots.now; tracks = length c.args.tracks.now; edges = es })) (sym c.of.ensures) c.in_ok-edges.ensures.problem.problem

pub returns-clause-problem : goal.returns-clause-problem
returns-clause-problem c = subst (λ (es : List Edge). IsProblemOf track_gate c.args.tracks.now c.args.plots.now (record { plots = length c.args.plots.now; tracks = length c.args.tracks.now; edges = es })) (sym c.of.ensures) c.in_ok-edges.ensures.problem
