use Rattle.std.proofs.Common.{◌∙◌, ap}
use Rattle.std.specs.Int.{w32, w64}
use Rattle.std.proofs.lemmas.Int.{to_z-of_z}
use Rattle.fixed_imm.specs.Values.{AxisState}
use Rattle.fixed_imm.specs.Correction.{posterior_weights}
use Rattle.fixed_imm.specs.Filter.{corrected_model, model_likelihood, moved, measured}
use Rattle.fixed_imm.proofs.mixed.MixedAxis.update.Goals as goal

pub returns-clause-value : goal.returns-clause-value
unfolding measured
returns-clause-value c =
    let d = to_z-of_z w32 c.args.d c.ranges.d in
    let z = to_z-of_z w64 c.args.z c.ranges.z in
    let a = c.predicted.inside in
    let steady = c.corrected_model-steady_likelihood.ensures in
    let manoeuvre = c.corrected_model-manoeuvre_likelihood.ensures in
    let steady_motion = steady.value ∙ (λ j. corrected_model a.motion.0 (z j) c.args.r) in
    let manoeuvre_motion = manoeuvre.value ∙ (λ j. corrected_model a.motion.1 (z j) c.args.r) in
    let steady_likelihood = steady.likelihood ∙ (λ j. model_likelihood a.motion.0 (z j) c.args.r) in
    let manoeuvre_likelihood = manoeuvre.likelihood ∙ (λ j. model_likelihood a.motion.1 (z j) c.args.r) in
    let weight = c.posterior_weights.ensures.value ∙ (λ j. posterior_weights a.weight (steady_likelihood j, manoeuvre_likelihood j)) in
    let predicted_is = c.predicted.view_is ∙ c.predict-predicted.ensures.value ∙ (λ j. moved c.args.self.now (d j)) in
    (λ j. record { motion = (steady_motion j, manoeuvre_motion j); weight = weight j }) ∙ ap (λ (x : AxisState). measured x c.args.z c.args.r) predicted_is
