use Rattle.slot_step.proofs.Batching.{batch_mix}
use Rattle.slot_step.proofs.laws.two_batches.Goals as goal

pub returns : goal.returns
returns g c = batch_mix
