use Rattle.slot_step.proofs.Running.{HasRun}
use Rattle.slot_step.proofs.slots.run_batches.Given as goal

abbrev pub invariant-loop-batch : goal.invariant-loop-batch
invariant-loop-batch l = HasRun l.fn.life l.fn.slot l.fn.table l.fn.batches l.batch-index l.tracks.items l.certs.items
