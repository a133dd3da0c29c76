use Rattle.slot_step.proofs.Tables.{run_of_none, run_rested, gated_rested}
use Rattle.slot_step.proofs.Certifying.{certificates_rested}
use Rattle.slot_step.proofs.laws.resting.Goals as goal

pub returns-clause-expires : goal.returns-clause-expires
returns-clause-expires g c = run_of_none

pub returns-clause-run : goal.returns-clause-run
returns-clause-run g c = run_rested

pub returns-clause-certificates : goal.returns-clause-certificates
returns-clause-certificates g c = certificates_rested

pub returns-clause-gates : goal.returns-clause-gates
returns-clause-gates g c = gated_rested
