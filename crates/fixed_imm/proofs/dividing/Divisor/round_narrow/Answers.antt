use Rattle.std.proofs.Common.{◌≡◌, ◌∙◌, ◌^◌, ◌≤◌, pos, ◌*ℤ◌, arith}
use Rattle.std.specs.Prelude.{unsigned_abs}
use Rattle.std.specs.Int.{int_div_euclid}
use Rattle.std.proofs.lemmas.Int.{ints}
use Rattle.trk_base.proofs.Sizes.{is_pos}
use Rattle.fixed_imm.proofs.Narrow.{var64, times64, plus64, through64}
use Rattle.fixed_imm.proofs.dividing.Divisor.round_narrow.Goals as goal

pub returns : goal.returns
returns c =
    let d = c.args.self.now in
    let most : unsigned_abs d.by ≤ 2 ^ 47 = omega (arith, ints, d.low, d.high) in
    let a = times64 (is_pos {n = 2}) (var64 c.args.a (2 ^ 61) c.requires tt) tt in
    let dividend = plus64 a (var64 d.by (2 ^ 47) most tt) tt in
    let divisor : pos d.twice ≡ pos 2 *ℤ d.by = omega (arith, ints, d.low, d.doubled) in
    through64 c.floor.type_inv ∙ c.floor.ensures ∙ (λ j. int_div_euclid (dividend.same j) (divisor j))
