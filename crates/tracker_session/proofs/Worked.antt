-- Worked logs, computed by the definitions.
use Rattle.std.proofs.Common.{◌≡◌, refl, [], ◌∷◌}
use Rattle.admission_log.specs.declared.events.Event.TheVariants.{Deliver, Tick}
use Rattle.tracker_session.specs.Replay.{editions_of}

-- a datagram and a tick
one_tick : editions_of (record { start = 4608000; events = Deliver 0 [] [] 0 ∷ Tick 4608128 ∷ [] }) ≡ (1, 2) ∷ []
one_tick = refl

-- two of each
two_ticks : editions_of (record { start = 4608000; events = Deliver 0 [] [] 0 ∷ Tick 4608128 ∷ Deliver 0 [] [] 0 ∷ Tick 4608256 ∷ [] }) ≡ (1, 2) ∷ (2, 4) ∷ []
two_ticks = refl
