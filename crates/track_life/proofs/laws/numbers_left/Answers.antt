use Rattle.track_life.proofs.Leaving.{left, assigned_again}
use Rattle.track_life.proofs.laws.numbers_left.Goals as goal

pub returns : goal.returns
returns c = record { again = assigned_again; left = left }
