use Rattle.asterix_frame.proofs.Bodies.{some_reading, one_list, one_fault, not_both}
use Rattle.asterix_frame.proofs.body.one_body.Goals as goal

pub returns-clause-some : goal.returns-clause-some
returns-clause-some c = λ uap body. some_reading uap body

pub returns-clause-one_list : goal.returns-clause-one_list
returns-clause-one_list c = one_list

pub returns-clause-one_fault : goal.returns-clause-one_fault
returns-clause-one_fault c = one_fault

pub returns-clause-not_both : goal.returns-clause-not_both
returns-clause-not_both c = not_both
