use Rattle.std.proofs.Common.{refl}
use Rattle.price_form.proofs.CertReading.{refused_edges, refused_names, read_here}
use Rattle.price_form.proofs.reading.cert_counts.Goals as goal

pub returns-then-not-are_edges : goal.returns-then-not-are_edges
returns-then-not-are_edges c = refused_edges c.args.octets.now c.args.at c.in-Some.counts c.in-Some.ensures refl c.are_edges.result c.are_edges.ensures c.if-not-are_edges.true

pub returns-then-not-name_below : goal.returns-then-not-name_below
returns-then-not-name_below c = refused_names c.args.octets.now c.args.at c.in-Some.counts c.in-Some.ensures refl c.name_below.result c.name_below.ensures c.if-not-name_below.true

pub returns : goal.returns
returns c = (c.in-Some.ensures, read_here c.args.octets.now c.args.at c.in-Some.counts (λ i. (c.type_inv.octets i).fits) c.in-Some.ensures (c.are_edges.ensures.0 c.if-not-are_edges.false) (c.name_below.ensures.0 c.if-not-name_below.false))
