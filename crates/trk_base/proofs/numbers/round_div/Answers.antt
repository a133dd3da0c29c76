use Rattle.std.proofs.Common.{rules, pos, ◌+ℤ◌, ◌*ℤ◌}
use Rattle.std.specs.Int.{w128}
use Rattle.std.specs.Prelude.{FitsSigned}
use Rattle.std.proofs.lemmas.Int.{to_z-of_z}
use Rattle.trk_base.proofs.numbers.round_div.Goals as goal

pub returns : goal.returns
returns c =
    let fa : FitsSigned w128 c.args.a = c.ranges.a in
    let fb : FitsSigned w128 c.args.b = c.ranges.b in
    let twice : FitsSigned w128 (pos 2 *ℤ c.args.a) = search rules in
    let total : FitsSigned w128 (pos 2 *ℤ c.args.a +ℤ c.args.b) = search rules in
    let below : FitsSigned w128 (pos 2 *ℤ c.args.b) = search rules in
    let out : FitsSigned w128 c.div_euclid.result = search rules in
    simp to_z-of_z (simp to_z-of_z at c.div_euclid.ensures)
