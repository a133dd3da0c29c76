use Rattle.std.proofs.Common.{arith, refl, rules, ◌+◌}
use Rattle.price_form.specs.declared.certs.PriceRecord.TheVariants.{Edition}
use Rattle.price_form.specs.Octets.{word_at}
use Rattle.price_form.specs.Reading.{cert_read}
use Rattle.price_form.proofs.Filed.{no_edition, no_cert, no_other, edition_read}
use Rattle.price_form.proofs.Taking.{cert_stands_here}
use Rattle.price_form.proofs.reading.record_end.Goals as goal

pub returns-then-octets-at-lt17 : goal.returns-then-octets-at-lt17
returns-then-octets-at-lt17 c = no_edition c.args.octets.now c.args.at c.in-1.is (omega (arith, c.if-octets-at-lt17.true))

pub returns-else-octets-at-lt17 : goal.returns-else-octets-at-lt17
returns-else-octets-at-lt17 c = record {
  stands_there = Edition (word_at c.args.octets.now (c.args.at + 1)) (word_at c.args.octets.now (c.args.at + 9));
  reads = edition_read c.args.octets.now c.args.at _ _ _ (λ i. (c.type_inv.octets i).fits) c.in-1.is (omega (arith, c.if-octets-at-lt17.false, c.requires)) refl refl refl;
}

pub returns-in_default-cert_counts : goal.returns-in_default-cert_counts
returns-in_default-cert_counts c = no_cert c.args.octets.now c.args.at c.in-2.is c.in_default-cert_counts.ensures

pub returns-in-Some : goal.returns-in-Some
returns-in-Some c = record {
  stands_there = _;
  reads = cert_stands_here c.args.octets.now c.args.at c.end.result (cert_read c.args.octets.now c.args.at) c.in-Some.counts (λ i. (c.type_inv.octets i).fits) c.in-2.is c.in-Some.ensures refl c.end.ensures;
}

pub returns-in_default : goal.returns-in_default
returns-in_default c = no_other c.args.octets.now c.args.at (search rules) (search rules)
