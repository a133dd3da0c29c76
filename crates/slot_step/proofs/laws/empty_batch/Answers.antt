use Rattle.slot_step.proofs.Batching.{batch_of_none}
use Rattle.slot_step.proofs.laws.empty_batch.Goals as goal

pub returns : goal.returns
returns g c = batch_of_none
