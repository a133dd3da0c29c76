use Rattle.std.proofs.Common.{rules, sym, subst, arith}
use Rattle.fixed_imm.specs.Aims.{mixed_aim}
use Rattle.gating.specs.Gating.{gate}
use Rattle.track_life.specs.Tracks.{TrackState}
use Rattle.slot_step.specs.Certificates.{IsAt}
use Rattle.slot_step.specs.Gates.{CoverGates, AreAdded}
use Rattle.slot_step.specs.MixedAims.{IsMixedOf}
use Rattle.slot_step.specs.Tracker.{track_gate}
use Rattle.slot_step.proofs.Certifying.{within}
use Rattle.slot_step.proofs.Components.{get_at}
use Rattle.slot_step.proofs.Edges.{by_plot, more_found, problem_of}
use Rattle.slot_step.proofs.Mixing.{mixed_at}
use Rattle.slot_step.proofs.Near.{gate_low}
use Rattle.slot_step.proofs.gates.edges_of.Goals as goal

pub loop-index-preserved : goal.loop-index-preserved
loop-index-preserved c =
    let ts = c.args.tracks.now in
    let ps = c.args.plots.now in
    let j = c.loop-index.index in
    let t : TrackState = c.index-tracks-index.result in
    let near = c.near_places-near.result.now in
    let es = c.loop-index.edges.items in
    let fs = c.add_gates.new.edges.items in
    let at : IsAt ts j t = subst (IsAt ts j) (sym c.index-tracks-index.is) (get_at t ts j c.loop-index-test.true) in (
      more_found track_gate ts ps j t near es fs at
          (subst (λ (u : TrackState). CoverGates (gate u.aim) ps near) c.track.view_is c.near_places-near.ensures)
          (subst (λ (u : TrackState). AreAdded (gate u.aim) ps near j es fs) c.track.view_is c.in_ok-add_gates.ensures.edges) c.loop-index.invariant.0,
      c.in_ok-add_gates.ensures.aims ts (subst (λ (u : TrackState). IsMixedOf ts (j, mixed_aim u.aim)) (sym c.track.view_is) (mixed_at ts j t at)) c.loop-index.invariant.1,
    )

pub returns-clause-problem : goal.returns-clause-problem
returns-clause-problem c =
    problem_of track_gate gate_low c.args.tracks.now c.args.plots.now c.loop-index.index c.loop-index.edges.items _ c.loop-index.invariant.0 (λ j t at. omega (arith, c.loop-index-test.false, within c.args.tracks.now j t at))
    c.sort_unstable_by_key.ensures.permutation (by_plot _ c.sort_unstable_by_key.ensures.sorted (λ a r q k. search rules))
