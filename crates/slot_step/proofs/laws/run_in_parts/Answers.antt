use Rattle.slot_step.proofs.Many.{run_all, certificates_all, gated_all}
use Rattle.slot_step.proofs.laws.run_in_parts.Goals as goal

pub returns-clause-tables : goal.returns-clause-tables
returns-clause-tables g c = run_all

pub returns-clause-certificates : goal.returns-clause-certificates
returns-clause-certificates g c = certificates_all

pub returns-clause-gates : goal.returns-clause-gates
returns-clause-gates g c = gated_all
