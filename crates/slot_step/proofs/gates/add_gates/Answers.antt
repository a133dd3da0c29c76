use Rattle.std.proofs.Common.{◌≡◌, ◌∙◌, ◌+◌, ◌++◌, ◌∷◌, [], ap, sym, subst, ℕ, ℤ, pos, List, get_or, take, Vec, Global}
use Rattle.std.proofs.lemmas.List.{take_more}
use Rattle.assignment_dual.specs.Problems.{Edge}
use Rattle.fixed_imm.specs.Aims.{AimState}
use Rattle.gating.specs.Gating.{gate}
use Rattle.plot_geometry.specs.Plots.{PlanePlot}
use Rattle.slot_step.specs.Certificates.{IsAt}
use Rattle.slot_step.specs.Gates.{AreAdded}
use Rattle.slot_step.specs.MixedAims.{IsMixedOf, AreMixed}
use Rattle.slot_step.proofs.Components.{get_at}
use Rattle.slot_step.proofs.Edges.{one_added, none_added}
use Rattle.slot_step.proofs.Mixing.{more_mixed}
use Rattle.slot_step.proofs.gates.add_gates.Goals as goal
use Rattle.slot_step.proofs.gates.add_gates.Goals.{in-Some+in_ok-push, in_default}

pub loop-place-preserved : goal.loop-place-preserved
loop-place-preserved c =
    let a = c.args.aim.now in
    let ps = c.args.plots.now in
    let near = c.args.near.now in
    let j = c.args.index in
    let k = c.loop-place.place-index in
    let es = c.args.edges.now.items in
    let fs = c.loop-place.edges.items in
    let p : PlanePlot = c.index-plots-place.result in
    let d : ℤ × ℕ = (pos 0, 0) in
    let e : ℤ × ℕ = get_or near k d in
    let at : IsAt ps e.1 p = subst (IsAt ps e.1) (sym c.index-plots-place.is) (get_at p ps e.1 (c.requires.inside k d c.loop-place-test.true)) in
    let more : take k near ++ e ∷ [] ≡ take (k + 1) near = sym (take_more near k d c.loop-place-test.true) in
    let gate_is : c.gate_mixed.result ≡ gate a p = c.gate_mixed.ensures a c.mixed-mixed.ensures in
    elim c.match-gate_mixed.branch [
      | in-Some+in_ok-push w ↦
          subst (λ (y : List (ℤ × ℕ) × List Edge). AreAdded (gate a) ps y.0 j es y.1) (λ m. (more m, sym (ap (λ (v : Vec Edge Global). v.items) w.edges-is ∙ w.in_ok-push.ensures.items) m))
          (one_added (gate a) ps j (take k near) e p es fs w.in-Some.cost at (sym gate_is ∙ w.in-Some.is) c.loop-place.invariant)
      | in_default w ↦
          subst (λ (y : List (ℤ × ℕ) × List Edge). AreAdded (gate a) ps y.0 j es y.1) (λ m. (more m, sym (ap (λ (v : Vec Edge Global). v.items) w.edges-is) m))
          (none_added (gate a) ps j (take k near) e p es fs at (sym gate_is ∙ w.in_default.is) c.loop-place.invariant)
    ]

pub returns-clause-aims : goal.returns-clause-aims
returns-clause-aims c ts is h =
    let j = c.args.index in
    subst (AreMixed ts) (sym c.in_ok-push-2.ensures.items)
    (more_mixed ts c.args.aims.now.items (j, c.mixed-mixed.result) (subst (λ (a : AimState). IsMixedOf ts (j, a)) (sym c.mixed-mixed.ensures) is) h)
