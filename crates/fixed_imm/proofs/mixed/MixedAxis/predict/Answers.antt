use Rattle.std.proofs.Common.{◌∙◌, ap, pos, ◌≤◌, sym, subst, arith}
use Rattle.std.specs.Prelude.{unsigned_abs}
use Rattle.std.specs.Int.{w32}
use Rattle.std.proofs.lemmas.Int.{ints, to_z-of_z}
use Rattle.fixed_imm.specs.Values.{AxisState}
use Rattle.fixed_imm.specs.Prediction.{predicted_motion}
use Rattle.fixed_imm.specs.Filter.{moved}
use Rattle.fixed_imm.proofs.Narrow.{through64}
use Rattle.fixed_imm.proofs.mixed.MixedAxis.predict.Goals as goal

pub returns-clause-value : goal.returns-clause-value
unfolding moved
returns-clause-value c =
    let m = c.self.inside.motion in
    let d = through64 c.from-time.type_inv ∙ c.from-time.ensures ∙ to_z-of_z w32 c.args.d c.ranges.d in
    let steady = c.predicted_motion.ensures.value ∙ (λ j. predicted_motion (pos 2048) (d j) m.0) in
    let manoeuvre = c.predicted_motion-2.ensures.value ∙ (λ j. predicted_motion (pos 524288) (d j) m.1) in
    (λ j. record { motion = (steady j, manoeuvre j); weight = c.self.inside.weight }) ∙ ap (λ (a : AxisState). moved a c.args.d) c.self.view_is

pub predicted_motion-requires-2-clause-time : goal.predicted_motion-requires-2-clause-time
predicted_motion-requires-2-clause-time c =
    let d = through64 c.from-time.type_inv ∙ c.from-time.ensures ∙ to_z-of_z w32 c.args.d c.ranges.d in
    subst (λ z. unsigned_abs z ≤ 7744) (sym d) (omega (arith, ints, c.requires.from, c.requires.to))
