use Rattle.std.proofs.Common.{◌∙◌}
use Rattle.std.specs.Int.{w32}
use Rattle.std.proofs.lemmas.Int.{to_z-of_z}
use Rattle.fixed_imm.specs.Filter.{combined, moved, predicted, together}
use Rattle.fixed_imm.proofs.axis.Axis.combined.Goals as goal

pub returns-clause-value : goal.returns-clause-value
unfolding combined predicted
returns-clause-value c =
    let d = to_z-of_z w32 c.args.d c.ranges.d in
    c.combined.ensures.value ∙ (λ j. together (moved (c.mixed.ensures j) (d j)))
