use Rattle.std.proofs.Common.{◌∙◌, ap, pos, ◌≤◌, sym, subst}
use Rattle.std.specs.Prelude.{unsigned_abs}
use Rattle.std.specs.Int.{w32}
use Rattle.std.proofs.lemmas.Int.{to_z-of_z}
use Rattle.fixed_imm.specs.Values.{AxisState}
use Rattle.trk_base.specs.Limits.{plane_bound}
use Rattle.fixed_imm.specs.Bounds.{IsAxis}
use Rattle.fixed_imm.specs.Mixing.{mean, overall}
use Rattle.fixed_imm.specs.Prediction.{predicted_motion}
use Rattle.fixed_imm.specs.Filter.{moved, together}
use Rattle.fixed_imm.proofs.Narrow.{through64}
use Rattle.fixed_imm.proofs.Laws.{moved_together}
use Rattle.fixed_imm.proofs.mixed.MixedAxis.position.Goals as goal

pub returns-clause-value : goal.returns-clause-value
unfolding moved together overall
returns-clause-value c =
    let m = c.self.inside.motion in
    let d = through64 c.from-time.type_inv ∙ c.from-time.ensures ∙ to_z-of_z w32 c.args.d c.ranges.d in
    let steady = through64 c.predicted_position.type_inv ∙ c.predicted_position.ensures.value (pos 2048) ∙ (λ j. (predicted_motion (pos 2048) (d j) m.0).p) in
    let manoeuvre = through64 c.predicted_position-2.type_inv ∙ c.predicted_position-2.ensures.value (pos 524288) ∙ (λ j. (predicted_motion (pos 524288) (d j) m.1).p) in
    let part = through64 c.from.type_inv ∙ c.from.ensures in
    through64 c.mean.type_inv ∙ c.mean.ensures ∙ (λ j. mean (part j) (steady j) (manoeuvre j)) ∙ ap (λ (a : AxisState). (together (moved a c.args.d)).0) c.self.view_is

pub returns-clause-size : goal.returns-clause-size
returns-clause-size c =
    subst (λ z. unsigned_abs z ≤ plane_bound) (sym (returns-clause-value c)) (moved_together c.args.self.now c.args.d (subst IsAxis c.self.view_is c.self.invariant)).position
