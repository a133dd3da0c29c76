use Rattle.tracker_session.proofs.Replayed.{prefix_of}
use Rattle.tracker_session.proofs.laws.prefix_of_replay.Goals as goal

pub returns : goal.returns
returns c = prefix_of
