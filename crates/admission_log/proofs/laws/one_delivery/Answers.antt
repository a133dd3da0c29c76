use Rattle.admission_log.proofs.Judgements as judging
use Rattle.admission_log.proofs.laws.one_delivery.Goals as goal

pub returns-clause-some : goal.returns-clause-some
returns-clause-some c = λ settings last next feed contents. (judging.delivery settings last next feed contents, judging.is_delivery settings last next feed contents)

pub returns-clause-only : goal.returns-clause-only
returns-clause-only c = judging.one_delivery
