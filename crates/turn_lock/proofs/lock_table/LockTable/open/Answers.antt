use Rattle.std.proofs.Common.{rules}
use Rattle.turn_lock.proofs.Opening.{opens_at}
use Rattle.turn_lock.proofs.lock_table.LockTable.open.Goals as goal

pub new-requires : goal.new-requires
new-requires g c = opens_at g.V.Logged.events g.V.Logged.is_publish g.V.Logged.base c.args.seats c.args.value c.of.result.value c.push_reserved.new.self.items c.requires (search rules) (search rules)
