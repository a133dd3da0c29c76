use Rattle.std.proofs.Common.{◌≡◌, ◌∙◌, ◌<◌, ap, length, sym, subst, arith}
use Rattle.std.specs.Prelude.{◌↔◌}
use Rattle.std.proofs.lemmas.Bool.{ltb-true, lt-ltb}
use Rattle.assignment_dual.specs.Problems.{Problem}
use Rattle.slot_step.specs.Gates.{GateOne}
use Rattle.slot_step.specs.MixedAims.{AreMixed}
use Rattle.slot_step.specs.Tracker.{track_gate}
use Rattle.slot_step.proofs.Looking.{some_edge}
use Rattle.slot_step.proofs.Mixing.{none_mixed}
use Rattle.slot_step.proofs.reaching.gate_one.Goals as goal

pub batch_costs-requires-clause-aims : goal.batch_costs-requires-clause-aims
batch_costs-requires-clause-aims c = subst (AreMixed c.args.tracks.now) (sym c.new-aims.ensures.items) (none_mixed c.args.tracks.now)

pub returns : goal.returns
returns c =
    let h : (0 < length c.in_ok-costs.costs.edges) ↔ GateOne track_gate c.args.tracks.now c.args.plots.now = some_edge c.args.tracks.now c.args.plots.now c.in_ok-costs.costs c.in_ok-costs.ensures.problem in
    let count : c.len.result ≡ length c.in_ok-costs.costs.edges = c.len.ensures ∙ ap (λ (p : Problem). length p.edges) c.costs.view_is in
    (λ t. h.0 (omega (arith, ltb-true 0 c.len.result t, count)), λ g. lt-ltb 0 c.len.result (omega (arith, h.1 g, count)))
