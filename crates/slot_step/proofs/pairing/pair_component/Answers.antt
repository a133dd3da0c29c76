use Rattle.std.proofs.Common.{◌∙◌, ap, sym, length, get_or, arith, subst}
use Rattle.std.proofs.lemmas.List.Elements.{Contains-get_or}
use Rattle.assignment_dual.specs.Pairings.{IsLeast}
use Rattle.assignment_dual.specs.Parts.{IsPartOf}
use Rattle.assignment_dual.specs.Problems.{rows_of}
use Rattle.assignment_dual.proofs.Signed.{count_rows}
use Rattle.assignment_dual.proofs.Unique.{gate_count}
use Rattle.cluster_split.specs.Components.{IsComponent}
use Rattle.slot_step.specs.Components.{edge_pairs}
use Rattle.slot_step.proofs.ComponentProblem.{track_below}
use Rattle.slot_step.proofs.pairing.pair_component.Goals as goal

pub put_pairing-requires-clause-count : goal.put_pairing-requires-clause-count
put_pairing-requires-clause-count c =
    let part : IsPartOf c.args.whole.now c.args.component.now.plots c.args.component.now.tracks c.in_ok-costs.costs = c.in_ok-costs.ensures.part in
    let least : IsLeast (rows_of c.in_ok-costs.costs) c.in_ok-solved.solved.pairing = c.in_ok-solved.ensures.least in
    ap length c.as_slice.ensures ∙ gate_count (rows_of c.in_ok-costs.costs) c.in_ok-solved.solved.pairing least.pairing.gates ∙ count_rows c.in_ok-costs.costs ∙ part.plots

pub cert_of-requires-clause-plots : goal.cert_of-requires-clause-plots
cert_of-requires-clause-plots c = λ k d lt. ((c.requires.component.connected (get_or c.args.component.now.plots k d)).0 (Contains-get_or c.args.component.now.plots k d lt)).0

pub cert_of-requires-clause-tracks : goal.cert_of-requires-clause-tracks
cert_of-requires-clause-tracks c = λ k d lt.
    let whole = c.args.whole.now in
    let part = c.args.component.now in
    let own : IsComponent whole.plots (edge_pairs whole.edges) part = subst (λ n. IsComponent n (edge_pairs whole.edges) part) (sym c.requires.problem.plot_count) c.requires.component in
    omega (arith, track_below whole c.requires.problem.problem part own (get_or part.tracks k d) (Contains-get_or part.tracks k d lt), c.requires.problem.track_count)
