use Rattle.std.proofs.Common.{◌∙◌, ap, arith, inl, inr}
use Rattle.std.specs.Prelude.{unsigned_abs}
use Rattle.std.specs.Int.{w64}
use Rattle.std.proofs.lemmas.Int.{to_z-of_z}
use Rattle.gating.specs.Gating.{axis_cost, within_gate}
use Rattle.gating.proofs.Costs.{too_far, near}
use Rattle.gating.proofs.gates.cost_of.Goals as goal

pub returns-then-unsigned_abs-gt-REACH : goal.returns-then-unsigned_abs-gt-REACH
returns-then-unsigned_abs-gt-REACH c =
    too_far c.args.ex c.args.sx c.args.ey c.args.sy (inl (omega (arith, c.if-unsigned_abs-gt-REACH.true, c.unsigned_abs.ensures.value ∙ ap unsigned_abs (to_z-of_z w64 c.args.ex c.ranges.ex))))

pub returns-then-unsigned_abs-gt-REACH-2 : goal.returns-then-unsigned_abs-gt-REACH-2
returns-then-unsigned_abs-gt-REACH-2 c =
    too_far c.args.ex c.args.sx c.args.ey c.args.sy (inr (omega (arith, c.if-unsigned_abs-gt-REACH-2.true, c.unsigned_abs-2.ensures.value ∙ ap unsigned_abs (to_z-of_z w64 c.args.ey c.ranges.ey))))

pub returns : goal.returns
returns c =
    let ex = to_z-of_z w64 c.args.ex c.ranges.ex in
    let ey = to_z-of_z w64 c.args.ey c.ranges.ey in
    let x = c.axis_cost.ensures.value ∙ ap (λ e. axis_cost e c.args.sx) ex in
    let y = c.axis_cost-2.ensures.value ∙ ap (λ e. axis_cost e c.args.sy) ey in
    c.within_gate.ensures
    ∙ (λ j. within_gate (x j) (y j))
    ∙ near c.args.ex c.args.sx c.args.ey c.args.sy
    (omega (arith, c.if-unsigned_abs-gt-REACH.false, c.unsigned_abs.ensures.value ∙ ap unsigned_abs ex))
    (omega (arith, c.if-unsigned_abs-gt-REACH-2.false, c.unsigned_abs-2.ensures.value ∙ ap unsigned_abs ey))
