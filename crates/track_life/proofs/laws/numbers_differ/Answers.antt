use Rattle.track_life.proofs.Differing.{still_differ, still_numbers}
use Rattle.track_life.proofs.laws.numbers_differ.Goals as goal

pub returns : goal.returns
returns c = record { differ = still_differ; range = still_numbers }
