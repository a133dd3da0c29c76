use Rattle.std.proofs.Common.{◌≡◌, map, take}
use Rattle.slot_step.specs.Calls.{plots_of}
use Rattle.slot_step.specs.Slots.{batch_table}
use Rattle.slot_step.specs.Tracker.{tracking, ordered}
use Rattle.slot_step.proofs.Running.{HasRun}
use Rattle.slot_step.proofs.starts.batch_tables.Given as goal

abbrev pub invariant-loop-batch : goal.invariant-loop-batch
invariant-loop-batch l = record {
  ran : HasRun l.fn.life l.fn.slot l.fn.table l.fn.batches l.batch-index l.tracks.items l.certs.items;
  tables : l.tables.items ≡ map (λ b. batch_table (tracking l.fn.life) (ordered l.fn.life) l.fn.table l.fn.slot (plots_of l.fn.batches) b.radar) (take l.batch-index l.fn.batches);
}
