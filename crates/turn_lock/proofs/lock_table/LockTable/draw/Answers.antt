use Rattle.std.proofs.Common.{subst, sym, length, ◌<◌, rules, refl}
use Rattle.turn_lock.proofs.Drawing.{peeks, draws}
use Rattle.turn_lock.proofs.lock_table.LockTable.draw.Goals as goal

pub load-next-requires : goal.load-next-requires
load-next-requires g c = (c.requires.own, search rules, peeks _ _ _ _ _ _ _ _)

pub compare_exchange-found-requires : goal.compare_exchange-found-requires
compare_exchange-found-requires g c = (search rules, search rules, draws _ _ _ _ _ _ _ _ _ _ refl (search rules) (subst (λ m. 0 < length m.0.numbers) (sym c.loop.invariant.2) c.requires.idle.1))
