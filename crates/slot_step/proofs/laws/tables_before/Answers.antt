use Rattle.slot_step.proofs.Tables.{stays_before, batch_tables_are, run_before}
use Rattle.slot_step.proofs.laws.tables_before.Goals as goal

pub returns-clause-stays : goal.returns-clause-stays
returns-clause-stays g c = stays_before

pub returns-clause-batches : goal.returns-clause-batches
returns-clause-batches g c = batch_tables_are

pub returns-clause-run : goal.returns-clause-run
returns-clause-run g c = run_before
