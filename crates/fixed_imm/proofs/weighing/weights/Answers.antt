use Rattle.std.proofs.Common.{◌∙◌, ◌-◌, pos}
use Rattle.std.specs.Prelude.{unsigned_abs}
use Rattle.std.specs.Int.{w64, int_max, int_min}
use Rattle.std.proofs.lemmas.Int.{to_z-of_z}
use Rattle.fixed_imm.specs.Bounds.{weights}
use Rattle.fixed_imm.proofs.Narrow.{through64}
use Rattle.fixed_imm.proofs.weighing.weights.Goals as goal

pub returns-clause-value : goal.returns-clause-value
unfolding weights
returns-clause-value c =
    let first = through64 c.clamp-first.type_inv ∙ c.clamp-first.ensures.value ∙ (λ j. int_max (pos 64) (int_min (to_z-of_z w64 c.args.x c.ranges.x j) (pos 65472))) in
    λ i. (unsigned_abs (first i), 65536 - unsigned_abs (first i))
