use Rattle.std.proofs.Common.{◌∙◌, sym}
use Rattle.std.specs.Int.{w32}
use Rattle.std.proofs.lemmas.Int.{to_z-of_z}
use Rattle.fixed_imm.specs.Aims.{AimState}
use Rattle.fixed_imm.specs.Bounds.{time_step}
use Rattle.gating.specs.MixedGating.{mixed_cost}
use Rattle.gating.proofs.Costs.{mixed_another, mixed_this}
use Rattle.gating.proofs.gates.gate_mixed.Goals as goal

pub returns-then-is_another : goal.returns-then-is_another
returns-then-is_another c b e =
    let a : AimState = record { x = c.aim.inside.x; y = c.aim.inside.y; time = c.aim.inside.time; address = c.aim.inside.address; code = c.aim.inside.code } in
    mixed_another a b c.args.plot.now (c.aim.view_is ∙ e) (sym c.if-is_another.ensures)

pub returns : goal.returns
returns c b e =
    let p = c.args.plot.now in
    let seen = c.plot.view_is in
    let a : AimState = record { x = c.aim.inside.x; y = c.aim.inside.y; time = c.aim.inside.time; address = c.aim.inside.address; code = c.aim.inside.code } in
    let d = to_z-of_z w32 c.time_step-d.result (record { sfits = c.time_step-d.type_inv }) ∙ c.time_step-d.ensures ∙ (λ j. time_step a.time (seen j).key.time) in
    c.mixed_cost.ensures ∙ (λ j. mixed_cost a.x a.y (d j) p) ∙ mixed_this a b p (c.aim.view_is ∙ e) (sym c.if-is_another.ensures)
