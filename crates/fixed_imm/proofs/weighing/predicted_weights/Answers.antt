use Rattle.std.proofs.Common.{◌∙◌, ◌+◌, ◌*◌, pos, arith}
use Rattle.std.specs.Int.{w64, cast_signed}
use Rattle.std.proofs.lemmas.Int.{to_z_pos}
use Rattle.trk_base.specs.Numbers.{round}
use Rattle.fixed_imm.specs.Bounds.{weights}
use Rattle.fixed_imm.specs.Filter.{predicted_weights}
use Rattle.fixed_imm.proofs.Narrow.{through64}
use Rattle.fixed_imm.proofs.weighing.predicted_weights.Goals as goal

pub returns-clause-value : goal.returns-clause-value
unfolding predicted_weights
returns-clause-value c =
    let m = c.args.m in
    let sum =
    (λ j. cast_signed w64 (62259 * c.from.ensures j + 6554 * c.from-2.ensures j))
    ∙ to_z_pos w64 (62259 * m.0 + 6554 * m.1) (omega (arith, c.requires.high, c.requires.sum)) in
    let first = through64 c.round_shift.type_inv ∙ c.round_shift.ensures ∙ (λ j. round (sum j) (pos 65536)) in
    c.weights.ensures.value ∙ (λ j. weights (first j))
