use Rattle.std.proofs.Common.{refl, arith}
use Rattle.std.specs.Prelude.{length}
use Rattle.asterix_frame.specs.Blocks.{encoding}
use Rattle.asterix_frame.proofs.Readings.{some_reading, one_list, one_fault, not_both}
use Rattle.asterix_frame.proofs.framing.one_block_list.Goals as goal

pub returns-clause-some : goal.returns-clause-some
returns-clause-some c = λ d all. some_reading (length d) d (omega arith) all

pub returns-clause-one_list : goal.returns-clause-one_list
returns-clause-one_list c = one_list

pub returns-clause-one_fault : goal.returns-clause-one_fault
returns-clause-one_fault c = one_fault

pub returns-clause-not_both : goal.returns-clause-not_both
returns-clause-not_both c = λ bs offset cause good f. not_both bs (encoding bs) offset cause good refl f
