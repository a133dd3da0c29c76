use Rattle.tracker_session.proofs.OneEnd.{one_end}
use Rattle.tracker_session.proofs.laws.one_end.Goals as goal

pub returns : goal.returns
returns c = one_end
