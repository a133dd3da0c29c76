use Rattle.std.proofs.Common.{arith}
use Rattle.scene_gen.proofs.Arriving.{all_in}
use Rattle.scene_gen.proofs.laws.all_come.Goals as goal

pub returns : goal.returns
returns c = λ seed aircraft seconds late k d lt. omega (arith, all_in seed aircraft seconds late k d lt)
