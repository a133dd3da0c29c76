use Rattle.pairing_load.specs.Problems.{generator_of}
use Rattle.pairing_load.proofs.problems.generator_of.Goals as goal

pub returns : goal.returns
unfolding generator_of
returns c = c.new.ensures
