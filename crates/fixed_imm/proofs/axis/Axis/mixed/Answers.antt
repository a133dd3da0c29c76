use Rattle.std.proofs.Common.{◌∙◌, ap}
use Rattle.fixed_imm.specs.Values.{AxisState}
use Rattle.fixed_imm.specs.Filter.{predicted_weights, mixed_axis}
use Rattle.fixed_imm.proofs.axis.Axis.mixed.Goals as goal

pub returns : goal.returns
unfolding mixed_axis
returns c =
    let weight = c.predicted_weights.ensures.value ∙ ap (λ (a : AxisState). predicted_weights a.weight) c.self.view_is in
    λ j. record { motion = (c.mix.ensures.value j, c.mix-2.ensures.value j); weight = weight j }
