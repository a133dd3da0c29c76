use Rattle.slot_step.proofs.Numbering.{run_bare, run_unread, numbers_hidden, numbers_anew, numbers_stay}
use Rattle.slot_step.proofs.laws.unread_numbers.Goals as goal

pub returns-clause-run : goal.returns-clause-run
returns-clause-run g c = λ k o m l w. run_bare k o l m w

pub returns-clause-unread : goal.returns-clause-unread
returns-clause-unread g c = λ k o m l w. run_unread k o l m w

pub returns-clause-hidden : goal.returns-clause-hidden
returns-clause-hidden g c = λ k o m l w. numbers_hidden k o l m w

pub returns-clause-anew : goal.returns-clause-anew
returns-clause-anew g c = λ k o m l w. numbers_anew k o l m w

pub returns-clause-kept : goal.returns-clause-kept
returns-clause-kept g c = λ k o m l w. numbers_stay k o l m w
