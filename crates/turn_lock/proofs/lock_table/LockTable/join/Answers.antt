use Rattle.std.proofs.Common.{rules}
use Rattle.turn_lock.proofs.Joining.{joins}
use Rattle.turn_lock.proofs.lock_table.LockTable.join.Goals as goal

pub join_seat-requires : goal.join_seat-requires
join_seat-requires g c = (c.requires.own.0, c.requires.own.1, c.requires.other.0, search rules, joins _ _ _ _ _ _ _ _ _ c.requires.idle.0 c.requires.other.1 c.requires.idle.1)
