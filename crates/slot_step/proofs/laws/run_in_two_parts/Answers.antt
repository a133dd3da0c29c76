use Rattle.slot_step.proofs.Tables.{run_merged, gated_merged}
use Rattle.slot_step.proofs.Certifying.{certificates_merged, certificates_alone}
use Rattle.slot_step.proofs.laws.run_in_two_parts.Goals as goal

pub returns-clause-tables : goal.returns-clause-tables
returns-clause-tables g c = run_merged

pub returns-clause-certificates : goal.returns-clause-certificates
returns-clause-certificates g c = λ k o l s t n ps qs zs i a cs ds. certificates_merged k o l s t n ps qs zs cs ds i a

pub returns-clause-alone : goal.returns-clause-alone
returns-clause-alone g c = λ k o l s t n ps i a cs. certificates_alone k o l s t n ps cs i a

pub returns-clause-gates : goal.returns-clause-gates
returns-clause-gates g c = λ k o l s t n ps qs zs i a p. gated_merged k o l s t n ps qs zs p i a
