use Rattle.std.proofs.Common.{rules, refl}
use Rattle.turn_lock.proofs.Passing.{passes}
use Rattle.turn_lock.proofs.lock_table.LockTable.pass.Goals as goal

pub store-requires : goal.store-requires
store-requires g c = let h = c.requires.held in (search rules, search rules, passes _ _ _ _ _ _ _ _ _ _ h.value h.stage h.has h.seen h.based refl)
