use Rattle.std.proofs.Common.{◌<◌, ap, subst}
use Rattle.turn_lock.proofs.Gathering.{has_number_of}
use Rattle.turn_lock.proofs.lock.TurnLock.close.Goals as goal

pub close-requires-clause-all : goal.close-requires-clause-all
close-requires-clause-all g c = λ n l. has_number_of c.gather-seat.result.me.0 c.args.turns.items n c.gather-seat.ensures.gathers (c.requires.all n (subst (λ z. n < z) (ap (λ z. z.seats) c.self.view_is) l))

pub returns-clause-begins : goal.returns-clause-begins
returns-clause-begins g c = λ k d l. (c.gather-seat.ensures.gathers.reached _ _ c.close.ensures.reached k d l).0

pub returns-clause-told : goal.returns-clause-told
returns-clause-told g c = λ k d l. (c.gather-seat.ensures.gathers.reached _ _ c.close.ensures.reached k d l).1
