use Rattle.std.proofs.Common.{rules, ◌≡◌, sym, subst, ℕ, ℤ, true, get_or, length, pos, ◌<◌}
use Rattle.plot_geometry.specs.Plots.{PlanePlot}
use Rattle.gating.specs.Gating.{is_another}
use Rattle.slot_step.specs.Certificates.{IsAt}
use Rattle.slot_step.proofs.Components.{get_at}
use Rattle.slot_step.proofs.Covering.{one_out}
use Rattle.slot_step.proofs.nearby.some_lies_in.Goals as goal
use Rattle.slot_step.proofs.nearby.some_lies_in.Goals.{else-contains-via-then-contains+else-not-is_another, else-contains-via-else-contains}

pub loop-place-preserved : goal.loop-place-preserved
loop-place-preserved c =
    let ps = c.args.plots.now in
    let near = c.args.near.now in
    let k = c.loop-place.place-index in
    let p : PlanePlot = c.index-plots-place.result in
    let e : ℤ × ℕ = (pos 0, 0) in
    let inside : (get_or near k e).1 < length ps = c.requires k e c.loop-place-test.true in
    let at : IsAt ps (get_or near k e).1 p = subst (IsAt ps (get_or near k e).1) (sym c.index-plots-place.is) (get_at p ps (get_or near k e).1 inside) in
    one_out c.args.aim.now c.args.coarse.now ps near k e p c.loop-place-test.true at (λ l. elim c.else-contains.branch [
      | else-contains-via-then-contains+else-not-is_another w ↦ (let other : is_another c.args.aim.now.address c.args.aim.now.code p ≡ true = search rules in other)
      | else-contains-via-else-contains w ↦ (let other : is_another c.args.aim.now.address c.args.aim.now.code p ≡ true = search rules in other)
    ]) c.loop-place.invariant
