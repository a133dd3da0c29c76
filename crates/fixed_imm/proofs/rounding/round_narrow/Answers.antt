use Rattle.std.proofs.Common.{◌∙◌, ◌^◌}
use Rattle.std.specs.Int.{int_div_euclid}
use Rattle.trk_base.proofs.Sizes.{is_pos}
use Rattle.fixed_imm.proofs.Narrow.{var64, times64, plus64, through64}
use Rattle.fixed_imm.proofs.Fields.{divisor_of}
use Rattle.fixed_imm.proofs.rounding.round_narrow.Goals as goal

pub returns : goal.returns
returns c =
    let a = times64 (is_pos {n = 2}) (var64 c.args.a (2 ^ 61) c.requires.small tt) tt in
    let b = divisor_of c.requires.divisor in
    let dividend = plus64 a b tt in
    let divisor = times64 (is_pos {n = 2}) b tt in
    through64 c.div_euclid.type_inv ∙ c.div_euclid.ensures ∙ (λ j. int_div_euclid (dividend.same j) (divisor.same j))
