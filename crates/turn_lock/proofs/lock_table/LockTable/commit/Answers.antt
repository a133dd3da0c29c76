use Rattle.std.proofs.Common.{rules}
use Rattle.turn_lock.proofs.Committing.{commits}
use Rattle.turn_lock.proofs.lock_table.LockTable.commit.Goals as goal

pub store-requires : goal.store-requires
store-requires g c = let h = c.requires.held in (search rules, search rules, commits _ _ _ _ _ _ _ _ _ _ h.found h.value h.stage h.has h.adds h.count_is)
