use Rattle.std.proofs.Common.{rules}
use Rattle.turn_lock.proofs.Refreshing.{refreshes}
use Rattle.turn_lock.proofs.lock_table.LockTable.fresh.Goals as goal

pub load-requires : goal.load-requires
load-requires g c = (search rules, search rules, refreshes _ _ _ _ _ _ _ _ c.requires.idle)
