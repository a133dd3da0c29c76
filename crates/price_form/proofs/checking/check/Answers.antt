use Rattle.std.proofs.Common.{rules, ◌↔◌}
use Rattle.std.specs.Prelude.{IsTrue}
use Rattle.assignment_dual.specs.Problems.{Proves}
use Rattle.assignment_dual.proofs.Signed.{no_cheaper_signed}
use Rattle.price_form.proofs.checking.check.Goals as goal

pub returns : goal.returns
returns c =
    let cert = c.args.cert.now in
    let proves : IsTrue c.prove.result ↔ Proves cert.costs cert.pairing cert.u cert.v = search rules in
    record { proves = proves; least = λ t ys h. no_cheaper_signed (proves.0 t) h }
