use Rattle.admission_log.proofs.Arrivals as arrivals
use Rattle.admission_log.proofs.laws.arrivals_count.Goals as goal

pub returns : goal.returns
returns c = arrivals.arrivals_count
