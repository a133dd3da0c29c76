use Rattle.slot_step.proofs.Slotwise.{none_below, one_batch_more, all_below}
use Rattle.slot_step.proofs.laws.batch_certificates.Goals as goal

pub returns-clause-none : goal.returns-clause-none
returns-clause-none g c = none_below

pub returns-clause-more : goal.returns-clause-more
returns-clause-more g c = one_batch_more

pub returns-clause-all : goal.returns-clause-all
returns-clause-all g c = all_below
