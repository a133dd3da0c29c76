use Rattle.std.proofs.Common.{pos, arith}
use Rattle.std.specs.Int.{w64}
use Rattle.std.proofs.lemmas.Int.{to_z-of_z, to_z_pos}
use Rattle.fixed_imm.specs.Filter.{started}
use Rattle.fixed_imm.proofs.axis.Axis.start.Goals as goal

pub returns-clause-value : goal.returns-clause-value
unfolding started
returns-clause-value c =
    let z = to_z-of_z w64 c.args.z c.ranges.z in
    let r = to_z_pos w64 c.args.r (omega (arith, c.requires.variance.to)) in
    λ j. record {
      motion = (record { p = z j; v = pos 0; p11 = r j; p12 = pos 0; p22 = pos 94371840000 }, record { p = z j; v = pos 0; p11 = r j; p12 = pos 0; p22 = pos 94371840000 });
      weight = (49152, 16384);
    }
