use Rattle.std.proofs.Common.{◌∙◌, ap, arith, ◌≤◌}
use Rattle.std.specs.Prelude.{unsigned_abs}
use Rattle.std.specs.Int.{w32}
use Rattle.std.proofs.lemmas.Int.{to_z-of_z}
use Rattle.gating.specs.Gating.{axis_cost, within_gate}
use Rattle.gating.specs.MixedGating.{mixed_innovation, mixed_variance}
use Rattle.gating.proofs.Costs.{x_too_far, y_too_far, x_too_dear, both_near, as_read, innovation_read}
use Rattle.gating.proofs.gates.mixed_cost.Goals as goal

pub returns-then-unsigned_abs-gt-REACH : goal.returns-then-unsigned_abs-gt-REACH
returns-then-unsigned_abs-gt-REACH c =
    let x = c.args.x.now in
    let y = c.args.y.now in
    let p = c.args.plot.now in
    let seen = c.plot.view_is in
    let d = to_z-of_z w32 c.args.d c.ranges.d in
    let ex = innovation_read x _ _ c.args.d _ p.x c.innovation-ex.ensures.value d (as_read c.plot.inside.x (omega (arith, c.plot.invariant.x)) ∙ (λ j. (seen j).x)) c.innovation-ex.ensures.near in
    x_too_far x y c.args.d p (omega (arith, c.if-unsigned_abs-gt-REACH.true, c.unsigned_abs.ensures.value ∙ ap unsigned_abs ex))

pub returns-then-unsigned_abs-gt-REACH-2 : goal.returns-then-unsigned_abs-gt-REACH-2
returns-then-unsigned_abs-gt-REACH-2 c =
    let x = c.args.x.now in
    let y = c.args.y.now in
    let p = c.args.plot.now in
    let seen = c.plot.view_is in
    let d = to_z-of_z w32 c.args.d c.ranges.d in
    let ey = innovation_read y _ _ c.args.d _ p.y c.innovation-ey.ensures.value d (as_read c.plot.inside.y (omega (arith, c.plot.invariant.y)) ∙ (λ j. (seen j).y)) c.innovation-ey.ensures.near in
    y_too_far x y c.args.d p (omega (arith, c.if-unsigned_abs-gt-REACH-2.true, c.unsigned_abs-2.ensures.value ∙ ap unsigned_abs ey))

pub returns-then-cost_x-from : goal.returns-then-cost_x-from
returns-then-cost_x-from c =
    let x = c.args.x.now in
    let y = c.args.y.now in
    let p = c.args.plot.now in
    let seen = c.plot.view_is in
    let d = to_z-of_z w32 c.args.d c.ranges.d in
    let ex = innovation_read x _ _ c.args.d _ p.x c.innovation-ex.ensures.value d (as_read c.plot.inside.x (omega (arith, c.plot.invariant.x)) ∙ (λ j. (seen j).x)) c.innovation-ex.ensures.near in
    let ey = innovation_read y _ _ c.args.d _ p.y c.innovation-ey.ensures.value d (as_read c.plot.inside.y (omega (arith, c.plot.invariant.y)) ∙ (λ j. (seen j).y)) c.innovation-ey.ensures.near in
    let near_x : unsigned_abs (mixed_innovation x c.args.d p.x) ≤ 512000 = omega (arith, c.if-unsigned_abs-gt-REACH.false, c.unsigned_abs.ensures.value ∙ ap unsigned_abs ex) in
    let near_y : unsigned_abs (mixed_innovation y c.args.d p.y) ≤ 512000 = omega (arith, c.if-unsigned_abs-gt-REACH-2.false, c.unsigned_abs-2.ensures.value ∙ ap unsigned_abs ey) in
    let sx = c.innovation_variance.ensures.value ∙ (λ j. mixed_variance x (d j) (seen j).rx) in
    let cost_x = c.axis_cost-cost_x.ensures.value ∙ (λ j. axis_cost (ex j) (sx j)) in
    x_too_dear x y c.args.d p _ near_x near_y cost_x (omega (arith, c.if-cost_x-from.true, c.from.ensures))

pub returns : goal.returns
returns c =
    let x = c.args.x.now in
    let y = c.args.y.now in
    let p = c.args.plot.now in
    let seen = c.plot.view_is in
    let d = to_z-of_z w32 c.args.d c.ranges.d in
    let ex = innovation_read x _ _ c.args.d _ p.x c.innovation-ex.ensures.value d (as_read c.plot.inside.x (omega (arith, c.plot.invariant.x)) ∙ (λ j. (seen j).x)) c.innovation-ex.ensures.near in
    let ey = innovation_read y _ _ c.args.d _ p.y c.innovation-ey.ensures.value d (as_read c.plot.inside.y (omega (arith, c.plot.invariant.y)) ∙ (λ j. (seen j).y)) c.innovation-ey.ensures.near in
    let near_x : unsigned_abs (mixed_innovation x c.args.d p.x) ≤ 512000 = omega (arith, c.if-unsigned_abs-gt-REACH.false, c.unsigned_abs.ensures.value ∙ ap unsigned_abs ex) in
    let near_y : unsigned_abs (mixed_innovation y c.args.d p.y) ≤ 512000 = omega (arith, c.if-unsigned_abs-gt-REACH-2.false, c.unsigned_abs-2.ensures.value ∙ ap unsigned_abs ey) in
    let sx = c.innovation_variance.ensures.value ∙ (λ j. mixed_variance x (d j) (seen j).rx) in
    let cost_x = c.axis_cost-cost_x.ensures.value ∙ (λ j. axis_cost (ex j) (sx j)) in
    let sy = c.innovation_variance-2.ensures.value ∙ (λ j. mixed_variance y (d j) (seen j).ry) in
    let cost_y = c.axis_cost.ensures.value ∙ (λ j. axis_cost (ey j) (sy j)) in
    c.within_gate.ensures ∙ (λ j. within_gate (cost_x j) (cost_y j)) ∙ both_near x y c.args.d p near_x near_y
