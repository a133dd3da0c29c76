use Rattle.turn_lock.proofs.Closing.{closes}
use Rattle.turn_lock.proofs.lock_table.LockTable.close.Goals as goal

pub returns : goal.returns
returns g c = closes g.V.Logged.events g.V.Logged.is_publish g.V.Logged.base _ _ c.args.seat.id c.args.seat.me.0 _ _ c.take-value.result c.requires.all c.requires.idle c.close_with-closed.ensures.values.2 c.take-value.ensures.value
