use Rattle.slot_step.proofs.Tables
use Rattle.slot_step.proofs.laws.expired_twice.Goals as goal

pub returns : goal.returns
returns g c = Tables.expired_twice
