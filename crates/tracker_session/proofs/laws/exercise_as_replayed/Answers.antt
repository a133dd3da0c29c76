use Rattle.tracker_session.proofs.Exercising.{as_replayed}
use Rattle.tracker_session.proofs.laws.exercise_as_replayed.Goals as goal

pub returns : goal.returns
returns c = as_replayed
