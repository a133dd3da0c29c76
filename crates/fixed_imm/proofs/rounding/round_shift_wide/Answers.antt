use Rattle.std.specs.Int.{w128}
use Rattle.std.proofs.lemmas.Int.{to_z-of_z}
use Rattle.fixed_imm.proofs.Quotients.{shifted128}
use Rattle.fixed_imm.proofs.rounding.round_shift_wide.Goals as goal

pub returns : goal.returns
returns c = shifted128 c.args.a _ c.args.digits c.requires.some c.requires.most c.requires.small (to_z-of_z w128 c.args.a c.ranges.a)
