use Rattle.std.proofs.Common.{arith, refl, rules}
use Rattle.price_form.proofs.Filed.{no_edition, no_cert, no_other, edition_read}
use Rattle.price_form.proofs.Taking.{cert_stands_here}
use Rattle.price_form.proofs.reading.record_at.Goals as goal

pub returns-then-octets-at-lt17 : goal.returns-then-octets-at-lt17
returns-then-octets-at-lt17 c = no_edition c.args.octets.now c.args.at c.in-1.is (omega (arith, c.if-octets-at-lt17.true))

pub returns-else-octets-at-lt17 : goal.returns-else-octets-at-lt17
returns-else-octets-at-lt17 c = edition_read c.args.octets.now c.args.at _ _ _ (λ i. (c.type_inv.octets i).fits) c.in-1.is (omega (arith, c.if-octets-at-lt17.false, c.requires)) c.word_at-number.ensures c.word_at-cut.ensures refl

pub returns-in_default-cert_counts : goal.returns-in_default-cert_counts
returns-in_default-cert_counts c = no_cert c.args.octets.now c.args.at c.in-2.is c.in_default-cert_counts.ensures

pub returns-in_ok-cert-in-2 : goal.returns-in_ok-cert-in-2
returns-in_ok-cert-in-2 c = cert_stands_here c.args.octets.now c.args.at c.end.result c.in_ok-cert-in-2.cert c.in-Some.counts (λ i. (c.type_inv.octets i).fits) c.in-2.is c.in-Some.ensures c.in_ok-cert-in-2.ensures c.end.ensures

pub returns-in_default : goal.returns-in_default
returns-in_default c = no_other c.args.octets.now c.args.at (search rules) (search rules)
