use Rattle.tracker_session.proofs.Replayed.{one_replay}
use Rattle.tracker_session.proofs.SomeReplay.{some_replay}
use Rattle.tracker_session.proofs.laws.one_replay.Goals as goal

pub returns-clause-some : goal.returns-clause-some
returns-clause-some c = some_replay

pub returns-clause-one : goal.returns-clause-one
returns-clause-one c = one_replay
