use Rattle.std.proofs.Common.{◌∙◌, ap, arith, sym}
use Rattle.std.specs.Prelude.{unsigned_abs}
use Rattle.std.specs.Int.{w32}
use Rattle.std.proofs.lemmas.Int.{to_z-of_z}
use Rattle.fixed_imm.specs.Values.{AxisState}
use Rattle.fixed_imm.specs.Aims.{AimState}
use Rattle.fixed_imm.specs.Bounds.{time_step}
use Rattle.fixed_imm.specs.Filter.{mixed_axis}
use Rattle.gating.specs.Gating.{gate}
use Rattle.gating.specs.MixedGating.{mixed_innovation, mixed_cost}
use Rattle.gating.proofs.Costs.{of_another, of_this, x_too_far, as_read, innovation_read}
use Rattle.gating.proofs.gates.gate.Goals as goal

pub returns-then-is_another : goal.returns-then-is_another
returns-then-is_another c =
    let p = c.args.plot.now in
    let a : AimState = record { x = c.aim.inside.x; y = c.aim.inside.y; time = c.aim.inside.time; address = c.aim.inside.address; code = c.aim.inside.code } in
    of_another a p (sym c.if-is_another.ensures) ∙ ap (λ (b : AimState). gate b p) c.aim.view_is

pub returns-then-unsigned_abs-gt-REACH : goal.returns-then-unsigned_abs-gt-REACH
returns-then-unsigned_abs-gt-REACH c =
    let p = c.args.plot.now in
    let seen = c.plot.view_is in
    let a : AimState = record { x = c.aim.inside.x; y = c.aim.inside.y; time = c.aim.inside.time; address = c.aim.inside.address; code = c.aim.inside.code } in
    let d = to_z-of_z w32 c.time_step-d.result (record { sfits = c.time_step-d.type_inv }) ∙ c.time_step-d.ensures ∙ (λ j. time_step a.time (seen j).key.time) in
    let time = time_step a.time p.key.time in
    let e =
    innovation_read c.mixed-x.result _ _ time _ p.x c.innovation.ensures.value d (as_read c.plot.inside.x (omega (arith, c.plot.invariant.x)) ∙ (λ j. (seen j).x)) c.innovation.ensures.near
    ∙ ap (λ (x : AxisState). mixed_innovation x time p.x) c.mixed-x.ensures in
    x_too_far (mixed_axis a.x) (mixed_axis a.y) time p (omega (arith, c.if-unsigned_abs-gt-REACH.true, c.unsigned_abs.ensures.value ∙ ap unsigned_abs e))
    ∙ of_this a p (sym c.if-is_another.ensures)
    ∙ ap (λ (b : AimState). gate b p) c.aim.view_is

pub returns : goal.returns
returns c =
    let p = c.args.plot.now in
    let seen = c.plot.view_is in
    let a : AimState = record { x = c.aim.inside.x; y = c.aim.inside.y; time = c.aim.inside.time; address = c.aim.inside.address; code = c.aim.inside.code } in
    let d = to_z-of_z w32 c.time_step-d.result (record { sfits = c.time_step-d.type_inv }) ∙ c.time_step-d.ensures ∙ (λ j. time_step a.time (seen j).key.time) in
    c.mixed_cost.ensures
    ∙ (λ j. mixed_cost (c.mixed-x.ensures j) (c.mixed.ensures j) (d j) p)
    ∙ of_this a p (sym c.if-is_another.ensures)
    ∙ ap (λ (b : AimState). gate b p) c.aim.view_is
