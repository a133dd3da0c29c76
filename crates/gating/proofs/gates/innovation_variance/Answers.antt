use Rattle.std.proofs.Common.{◌∙◌, ◌+◌}
use Rattle.std.specs.Prelude.{unsigned_abs}
use Rattle.std.specs.Int.{w32}
use Rattle.std.proofs.lemmas.Int.{to_z-of_z}
use Rattle.fixed_imm.specs.Filter.{moved, together}
use Rattle.fixed_imm.proofs.Narrow.{through64}
use Rattle.gating.specs.MixedGating.{mixed_variance}
use Rattle.gating.proofs.gates.innovation_variance.Goals as goal

pub returns-clause-value : goal.returns-clause-value
unfolding mixed_variance
returns-clause-value c =
    let d = to_z-of_z w32 c.args.d c.ranges.d in
    let variance = through64 c.variance.type_inv ∙ c.variance.ensures.value ∙ (λ j. (together (moved c.args.axis.now (d j))).2) in
    λ j. unsigned_abs (variance j) + c.args.r
