use Rattle.std.proofs.Common.{◌∙◌, ap, pos, ◌-ℤ◌, ◌*ℤ◌, sym, subst, lit≤}
use Rattle.std.specs.Int.{w32}
use Rattle.std.proofs.lemmas.Int.{to_z-of_z}
use Rattle.fixed_imm.specs.Values.{AxisState}
use Rattle.trk_base.proofs.Sizes.{is_mul, size}
use Rattle.fixed_imm.specs.Bounds.{IsAxis, IsCombinedVariance}
use Rattle.fixed_imm.specs.Mixing.{covariance, overall}
use Rattle.fixed_imm.specs.Prediction.{predicted_motion}
use Rattle.fixed_imm.specs.Filter.{moved, together}
use Rattle.fixed_imm.proofs.Narrow.{var64, times64, minus64, fits64, through64}
use Rattle.fixed_imm.proofs.Laws.{moved_together}
use Rattle.fixed_imm.proofs.mixed.MixedAxis.variance.Goals as goal

pub overflow_mul-apart : goal.overflow_mul-apart
overflow_mul-apart c =
    let apart = minus64 (var64 c.predicted_position.result 256000000 c.predicted_position.ensures.size tt) (var64 c.predicted_position-2.result 256000000 c.predicted_position-2.ensures.size tt) tt in
    fits64 (is_mul apart apart) tt

pub covariance-requires-clause-spread : goal.covariance-requires-clause-spread
covariance-requires-clause-spread c =
    let apart = minus64 (var64 c.predicted_position.result 256000000 c.predicted_position.ensures.size tt) (var64 c.predicted_position-2.result 256000000 c.predicted_position-2.ensures.size tt) tt in
    size (times64 apart apart tt) (lit≤ tt)

pub returns-clause-value : goal.returns-clause-value
unfolding moved together overall
returns-clause-value c =
    let m = c.self.inside.motion in
    let d = through64 c.from-time.type_inv ∙ c.from-time.ensures ∙ to_z-of_z w32 c.args.d c.ranges.d in
    let apart = minus64 (var64 c.predicted_position.result 256000000 c.predicted_position.ensures.size tt) (var64 c.predicted_position-2.result 256000000 c.predicted_position-2.ensures.size tt) tt in
    let steady = c.predicted_position.ensures.value (pos 2048) ∙ (λ j. (predicted_motion (pos 2048) (d j) m.0).p) in
    let manoeuvre = c.predicted_position-2.ensures.value (pos 524288) ∙ (λ j. (predicted_motion (pos 524288) (d j) m.1).p) in
    let spread = (times64 apart apart tt).same ∙ (λ j. (steady j -ℤ manoeuvre j) *ℤ (steady j -ℤ manoeuvre j)) in
    let first = through64 c.predicted_variance.type_inv ∙ c.predicted_variance.ensures.value ∙ (λ j. (predicted_motion (pos 2048) (d j) m.0).p11) in
    let second = through64 c.predicted_variance-2.type_inv ∙ c.predicted_variance-2.ensures.value ∙ (λ j. (predicted_motion (pos 524288) (d j) m.1).p11) in
    let part = through64 c.from.type_inv ∙ c.from.ensures in
    through64 c.covariance.type_inv
    ∙ c.covariance.ensures
    ∙ (λ j. covariance (part j) (first j) (second j) (spread j))
    ∙ ap (λ (a : AxisState). (together (moved a c.args.d)).2) c.self.view_is

pub returns-clause-range : goal.returns-clause-range
returns-clause-range c =
    subst (λ z. IsCombinedVariance z) (sym (returns-clause-value c)) (moved_together c.args.self.now c.args.d (subst IsAxis c.self.view_is c.self.invariant)).variance
