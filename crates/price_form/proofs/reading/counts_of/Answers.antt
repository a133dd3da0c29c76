use Rattle.std.proofs.Common.{arith}
use Rattle.price_form.proofs.InPlace.{counts_read, long_enough}
use Rattle.price_form.proofs.reading.counts_of.Goals as goal

pub half_at-plots-requires : goal.half_at-plots-requires
half_at-plots-requires c = (long_enough c.args.octets.now c.args.at c.requires.cert c.requires.has).0

pub half_at-tracks-requires : goal.half_at-tracks-requires
half_at-tracks-requires c = (long_enough c.args.octets.now c.args.at c.requires.cert c.requires.has).1

pub half_at-requires : goal.half_at-requires
half_at-requires c = let l = (long_enough c.args.octets.now c.args.at c.requires.cert c.requires.has).2 in omega (arith, l, c.half_at-plots.ensures, c.half_at-tracks.ensures)

pub returns : goal.returns
returns c = counts_read c.args.octets.now c.args.at c.requires.cert c.half_at-plots.result c.half_at-tracks.result c.half_at.result c.requires.has c.half_at-plots.ensures c.half_at-tracks.ensures c.half_at.ensures
