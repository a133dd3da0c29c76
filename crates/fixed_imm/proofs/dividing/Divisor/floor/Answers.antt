use Rattle.std.proofs.Common.{◌≤◌, negsuc, arith}
use Rattle.std.specs.Int.{w64}
use Rattle.std.proofs.lemmas.Int.{ints, to_z-of_z}
use Rattle.fixed_imm.proofs.Reciprocals.{below_read, down, up}
use Rattle.fixed_imm.proofs.dividing.Divisor.floor.Goals as goal

pub returns-then-a-lt0 : goal.returns-then-a-lt0
returns-then-a-lt0 c =
    let d = c.args.self.now in
    let read = to_z-of_z w64 c.args.a c.ranges.a in
    let some : 1 ≤ d.twice = omega (arith, ints, d.low, d.doubled) in
    down c.args.a _ _ d.twice (omega (arith, ints, c.if-a-lt0.true, read)) c.requires some (below_read c.args.a _ c.requires (omega (arith, ints, c.if-a-lt0.true, read)) read) c.half_quotient.ensures

pub returns-else-a-lt0 : goal.returns-else-a-lt0
returns-else-a-lt0 c =
    let d = c.args.self.now in
    let read = to_z-of_z w64 c.args.a c.ranges.a in
    let some : 1 ≤ d.twice = omega (arith, ints, d.low, d.doubled) in
    up c.args.a _ _ d.twice (omega (arith, ints, c.if-a-lt0.false, read)) c.requires some read c.half_quotient-else-a-lt0.ensures
