use Rattle.std.proofs.Common.{rules}
use Rattle.turn_lock.proofs.Splitting.{gives_away}
use Rattle.turn_lock.proofs.lock_table.LockTable.split.Goals as goal

pub split_seat-requires : goal.split_seat-requires
split_seat-requires g c = let m = c.requires.more in (c.requires.own, search rules, gives_away _ _ _ _ _ _ _ m.0 m.1 c.requires.idle m.2 m.3)
