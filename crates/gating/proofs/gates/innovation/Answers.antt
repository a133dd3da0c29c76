use Rattle.std.proofs.Common.{◌∙◌, ◌-ℤ◌}
use Rattle.std.specs.Int.{w32}
use Rattle.std.proofs.lemmas.Int.{to_z-of_z}
use Rattle.fixed_imm.specs.Filter.{moved, together}
use Rattle.fixed_imm.proofs.Narrow.{var64, minus64}
use Rattle.gating.specs.MixedGating.{mixed_innovation}
use Rattle.gating.proofs.gates.innovation.Goals as goal

pub returns-clause-value : goal.returns-clause-value
unfolding mixed_innovation
returns-clause-value c =
    let d = to_z-of_z w32 c.args.d c.ranges.d in
    let difference = minus64 (var64 c.args.z 256000000 c.requires.position tt) (var64 c.position.result 256000000 c.position.ensures.size tt) tt in
    let position = c.position.ensures.value ∙ (λ j. (together (moved c.args.axis.now (d j))).0) in
    difference.same ∙ (λ j. c.args.z -ℤ position j)
