use Rattle.track_life.proofs.Numbering.{bare_assigned}
use Rattle.track_life.proofs.laws.numbers_alone.Goals as goal

pub returns : goal.returns
returns c = bare_assigned
