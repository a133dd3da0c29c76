use Rattle.scene_gen.specs.Draws.{generator_of}
use Rattle.scene_gen.proofs.draws.generator_of.Goals as goal

pub returns : goal.returns
unfolding generator_of
returns c = c.new.ensures
