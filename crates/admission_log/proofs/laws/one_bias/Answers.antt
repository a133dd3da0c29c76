use Rattle.admission_log.specs.Biases.{bias_at}
use Rattle.admission_log.proofs.Holding.{holds_at, one_holds}
use Rattle.admission_log.proofs.laws.one_bias.Goals as goal

pub returns-clause-holds : goal.returns-clause-holds
returns-clause-holds c = holds_at

pub returns-clause-only : goal.returns-clause-only
returns-clause-only c = λ log own radar n bias h. one_holds log own radar n bias (bias_at log own radar n) h (holds_at log own radar n)
