use Rattle.std.proofs.Common.{◌∙◌, ap, ◌≤◌, sym, subst}
use Rattle.std.specs.Prelude.{unsigned_abs}
use Rattle.fixed_imm.specs.Values.{AxisState}
use Rattle.fixed_imm.specs.Constants.{velocity_bound}
use Rattle.fixed_imm.specs.Bounds.{IsAxis, bounded}
use Rattle.fixed_imm.specs.Mixing.{mean, overall}
use Rattle.fixed_imm.specs.Prediction.{predicted_motion}
use Rattle.fixed_imm.specs.Filter.{moved, together}
use Rattle.fixed_imm.proofs.Narrow.{through64}
use Rattle.fixed_imm.proofs.Fields.{v_of}
use Rattle.fixed_imm.proofs.Covariances.{clamp_inside}
use Rattle.fixed_imm.proofs.Laws.{moved_together}
use Rattle.fixed_imm.proofs.mixed.MixedAxis.velocity.Goals as goal

pub returns-clause-value : goal.returns-clause-value
unfolding moved together overall predicted_motion bounded
returns-clause-value c =
    let axis = c.self.invariant in
    let steady = (v_of _ axis.first).same ∙ clamp_inside _ velocity_bound axis.first.v in
    let manoeuvre = (v_of _ axis.second).same ∙ clamp_inside _ velocity_bound axis.second.v in
    let part = through64 c.from.type_inv ∙ c.from.ensures in
    through64 c.mean.type_inv ∙ c.mean.ensures ∙ (λ j. mean (part j) (steady j) (manoeuvre j)) ∙ ap (λ (a : AxisState). (together (moved a c.args.d)).1) c.self.view_is

pub returns-clause-size : goal.returns-clause-size
returns-clause-size c =
    subst (λ z. unsigned_abs z ≤ velocity_bound) (sym (returns-clause-value c)) (moved_together c.args.self.now c.args.d (subst IsAxis c.self.view_is c.self.invariant)).velocity
