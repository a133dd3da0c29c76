use Rattle.std.proofs.Common.{rules}
use Rattle.turn_lock.proofs.Looking.{looks}
use Rattle.turn_lock.proofs.lock_table.LockTable.wait.Goals as goal

pub load-requires : goal.load-requires
load-requires g c = (search rules, search rules, looks _ _ _ _ _ _ _ c.args.ticket _ (search rules))
