use Rattle.tracker_session.proofs.Inputs.{one_read, some_read}
use Rattle.tracker_session.proofs.laws.one_input.Goals as goal

pub returns-clause-some : goal.returns-clause-some
returns-clause-some c = some_read

pub returns-clause-one : goal.returns-clause-one
returns-clause-one c = one_read
