use Rattle.tracker_session.proofs.Faults.{malformed_have_faults}
use Rattle.tracker_session.proofs.laws.malformed_datagrams.Goals as goal

pub returns : goal.returns
returns c = malformed_have_faults
