use Rattle.asterix_frame.proofs.RecordCodes.{one_walk}
use Rattle.asterix_frame.proofs.Totals.{some_walk}
use Rattle.asterix_frame.proofs.walk.one_walk.Goals as goal

pub returns-clause-some : goal.returns-clause-some
returns-clause-some c = λ table body from offset. some_walk table offset body from

pub returns-clause-one : goal.returns-clause-one
returns-clause-one c = λ table body from offset spans spans' end end' a b. one_walk table body from offset spans spans' end end' a b
