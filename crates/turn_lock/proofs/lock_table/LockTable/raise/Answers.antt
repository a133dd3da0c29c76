use Rattle.std.proofs.Common.{rules}
use Rattle.turn_lock.proofs.Raising.{raises}
use Rattle.turn_lock.proofs.lock_table.LockTable.raise.Goals as goal

pub store-requires : goal.store-requires
store-requires g c = let h = c.requires.committed in (search rules, search rules, raises _ _ _ _ _ _ _ _ _ _ h.0 h.1)
