use Rattle.std.proofs.Common.{◌∙◌}
use Rattle.std.specs.Int.{w32, w64}
use Rattle.std.proofs.lemmas.Int.{to_z-of_z}
use Rattle.fixed_imm.specs.Filter.{measured, moved, predicted, updated}
use Rattle.fixed_imm.proofs.axis.Axis.update.Goals as goal

pub returns-clause-value : goal.returns-clause-value
unfolding updated predicted
returns-clause-value c =
    let d = to_z-of_z w32 c.args.d c.ranges.d in
    let z = to_z-of_z w64 c.args.z c.ranges.z in
    c.update.ensures.value ∙ (λ j. measured (moved (c.mixed.ensures j) (d j)) (z j) c.args.r)
