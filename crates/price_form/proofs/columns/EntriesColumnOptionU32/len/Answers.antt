use Rattle.std.proofs.Common.{sym}
use Rattle.price_form.specs.Octets.{entry_number_at}
use Rattle.price_form.proofs.Standing.{length-many}
use Rattle.price_form.proofs.columns.EntriesColumnOptionU32.len.Goals as goal

pub returns : goal.returns
returns c = sym (length-many entry_number_at 4 c.args.self.now.octets.now c.args.self.now.from c.args.self.now.count)
