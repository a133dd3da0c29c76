use Rattle.std.specs.Int.{w128}
use Rattle.std.proofs.lemmas.Int.{to_z-of_z}
use Rattle.plot_geometry.proofs.Shifts.{shifted}
use Rattle.plot_geometry.proofs.turns.round_shift.Goals as goal

pub returns : goal.returns
returns c = shifted c.args.a _ c.requires (to_z-of_z w128 c.args.a c.ranges.a)
