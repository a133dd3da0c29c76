use Rattle.assignment_dual.proofs.Renumbering.{other_numbers}
use Rattle.assignment_dual.proofs.laws.renumbered_tracks.Goals as goal

pub returns : goal.returns
returns c = other_numbers
