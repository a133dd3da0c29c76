use Rattle.tracker_session.proofs.Verdicts.{one_verdict, some_verdict}
use Rattle.tracker_session.proofs.laws.one_check.Goals as goal

pub returns : goal.returns
returns c = record { some = some_verdict; one = one_verdict }
