use Rattle.slot_step.proofs.Tables.{merged_of, is_merged, beside_back, merged_back, beside_merged, merged_rest, merged_before, beside_run}
use Rattle.slot_step.proofs.laws.merged_tables.Goals as goal

pub returns-clause-both : goal.returns-clause-both
returns-clause-both g c = merged_of

pub returns-clause-only : goal.returns-clause-only
returns-clause-only g c = is_merged

pub returns-clause-back : goal.returns-clause-back
returns-clause-back g c = λ k o l s t b. (beside_back k o l s t b, merged_back k o l s t b)

pub returns-clause-rest : goal.returns-clause-rest
returns-clause-rest g c = λ k o l s t r x y z. (beside_merged k o l s t r x y z, merged_rest k o l s t r x y z)

pub returns-clause-before : goal.returns-clause-before
returns-clause-before g c = merged_before

pub returns-clause-run : goal.returns-clause-run
returns-clause-run g c = beside_run
