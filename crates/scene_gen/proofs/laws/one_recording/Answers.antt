use Rattle.scene_gen.proofs.Fitting.{is_read}
use Rattle.scene_gen.proofs.laws.one_recording.Goals as goal

pub returns : goal.returns
returns c = is_read
