use Rattle.std.specs.Int.{w64}
use Rattle.std.proofs.lemmas.Int.{to_z-of_z}
use Rattle.fixed_imm.proofs.Quotients.{shifted64}
use Rattle.fixed_imm.proofs.rounding.round_shift.Goals as goal

pub returns : goal.returns
returns c = shifted64 c.args.a _ c.args.digits c.requires.some c.requires.most c.requires.small (to_z-of_z w64 c.args.a c.ranges.a)
