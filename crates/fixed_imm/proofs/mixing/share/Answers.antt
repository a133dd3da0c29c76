use Rattle.std.proofs.Common.{◌∙◌, ◌≤◌, ap, arith, rules, subst, sym, pos}
use Rattle.std.specs.Int.{w64}
use Rattle.std.proofs.lemmas.Int.{ints, to_z_pos}
use Rattle.trk_base.specs.Numbers.{IsBetween}
use Rattle.fixed_imm.proofs.Means.{share_is, share_size}
use Rattle.fixed_imm.proofs.mixing.share.Goals as goal

pub overflow_cast-result : goal.overflow_cast-result
overflow_cast-result c =
    let size : c.quotient.result ≤ 65536 = omega (arith, c.quotient.ensures, share_size c.args.a c.args.b c.requires.some) in
    search rules

pub returns-clause-value : goal.returns-clause-value
returns-clause-value c =
    let size : c.quotient.result ≤ 65536 = omega (arith, c.quotient.ensures, share_size c.args.a c.args.b c.requires.some) in
    to_z_pos w64 c.quotient.result (omega (arith, size)) ∙ ap pos c.quotient.ensures ∙ share_is c.args.a c.args.b

pub returns-clause-part : goal.returns-clause-part
returns-clause-part c =
    let size : c.quotient.result ≤ 65536 = omega (arith, c.quotient.ensures, share_size c.args.a c.args.b c.requires.some) in
    subst (λ z. IsBetween (pos 0) z (pos 65536)) (sym (to_z_pos w64 c.quotient.result (omega (arith, size)))) (record { from = omega (arith, ints, size); to = omega (arith, ints, size) })
