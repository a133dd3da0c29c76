use Rattle.live_picture.specs.Rounds.{Follows}
use Rattle.live_picture.proofs.tests.beside.conduct.Given as goal

abbrev pub invariant-loop-turn : goal.invariant-loop-turn
invariant-loop-turn g l = Follows l.station l.live
