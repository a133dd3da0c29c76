use Rattle.std.proofs.Common.{◌∙◌}
use Rattle.std.specs.Int.{w32}
use Rattle.std.proofs.lemmas.Int.{to_z-of_z}
use Rattle.fixed_imm.specs.Filter.{moved, together}
use Rattle.fixed_imm.proofs.Narrow.{through64}
use Rattle.fixed_imm.proofs.mixed.MixedAxis.combined.Goals as goal

pub returns-clause-value : goal.returns-clause-value
returns-clause-value c =
    let d = to_z-of_z w32 c.args.d c.ranges.d in
    let m = c.args.self.now in
    let position = through64 c.position.type_inv ∙ c.position.ensures.value ∙ (λ j. (together (moved m (d j))).0) in
    let velocity = through64 c.velocity.type_inv ∙ c.velocity.ensures.value ∙ (λ j. (together (moved m (d j))).1) in
    let variance = through64 c.variance.type_inv ∙ c.variance.ensures.value ∙ (λ j. (together (moved m (d j))).2) in
    λ j. (position j, velocity j, variance j)
