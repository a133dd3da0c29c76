use Rattle.std.proofs.Common.{sym}
use Rattle.price_form.specs.Octets.{edge_numbers_at}
use Rattle.price_form.proofs.Standing.{length-many}
use Rattle.price_form.proofs.columns.EdgesColumnTuple3U32U32U16.len.Goals as goal

pub returns : goal.returns
returns c = sym (length-many edge_numbers_at 10 c.args.self.now.octets.now c.args.self.now.from c.args.self.now.count)
