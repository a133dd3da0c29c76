use Rattle.asterix_frame.proofs.Datagrams.{some_reading, one_list, first_fault, not_both}
use Rattle.asterix_frame.proofs.datagram.one_datagram.Goals as goal

pub returns-clause-some : goal.returns-clause-some
returns-clause-some c = some_reading

pub returns-clause-one_list : goal.returns-clause-one_list
returns-clause-one_list c = one_list

pub returns-clause-one_fault : goal.returns-clause-one_fault
returns-clause-one_fault c = first_fault

pub returns-clause-not_both : goal.returns-clause-not_both
returns-clause-not_both c = not_both
