use Rattle.admission_log.proofs.Keys as keys
use Rattle.admission_log.proofs.laws.keys_rise.Goals as goal

pub returns : goal.returns
returns c = keys.keys_rise
