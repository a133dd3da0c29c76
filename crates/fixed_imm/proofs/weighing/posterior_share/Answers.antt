use Rattle.std.proofs.Common.{◌∙◌, ◌≤◌, ap, arith, pos, rules}
use Rattle.std.specs.Int.{w64}
use Rattle.std.proofs.lemmas.Int.{to_z_pos}
use Rattle.fixed_imm.proofs.Means.{share_is, share_size}
use Rattle.fixed_imm.proofs.weighing.posterior_share.Goals as goal

pub overflow_cast-result : goal.overflow_cast-result
overflow_cast-result c =
    let size : c.share_of.result ≤ 65536 = omega (arith, c.share_of.ensures, share_size c.args.a c.args.b c.requires.some) in
    search rules

pub returns : goal.returns
returns c =
    let size : c.share_of.result ≤ 65536 = omega (arith, c.share_of.ensures, share_size c.args.a c.args.b c.requires.some) in
    to_z_pos w64 c.share_of.result (omega (arith, size)) ∙ ap pos c.share_of.ensures ∙ share_is c.args.a c.args.b
