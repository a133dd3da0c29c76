use Rattle.slot_step.proofs.Keyed.{keyed_laws}
use Rattle.slot_step.proofs.laws.keyed_tracks.Goals as goal

pub returns : goal.returns
returns g c = keyed_laws
