use Rattle.admission_log.proofs.OwnKeys as keys
use Rattle.admission_log.proofs.laws.own_keys.Goals as goal

pub returns : goal.returns
returns c = keys.own_keys
