use Rattle.recording.proofs.Prefixes.{prefix_fault_stays}
use Rattle.recording.proofs.laws.prefix_fault_stays.Goals as goal

pub returns : goal.returns
returns c = prefix_fault_stays
