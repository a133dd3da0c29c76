use Rattle.std.proofs.Common.{lit≤}
use Rattle.trk_base.proofs.Sizes.{is_add, size}
use Rattle.fixed_imm.specs.Mixing.{mean}
use Rattle.fixed_imm.proofs.Narrow.{var64, times64, plus64, minus64, rounded64, fits64}
use Rattle.fixed_imm.proofs.Fields.{part_of}
use Rattle.fixed_imm.proofs.mixing.mean.Goals as goal

pub round_shift-requires-clause-small : goal.round_shift-requires-clause-small
round_shift-requires-clause-small c =
    let x0 = var64 c.args.x0 _ c.requires.first tt in
    let x1 = var64 c.args.x1 _ c.requires.second tt in
    let product = times64 (part_of c.requires.part) (minus64 x0 x1 tt) tt in
    size product (lit≤ tt)

pub overflow_add-result : goal.overflow_add-result
overflow_add-result c =
    let x0 = var64 c.args.x0 _ c.requires.first tt in
    let x1 = var64 c.args.x1 _ c.requires.second tt in
    let product = times64 (part_of c.requires.part) (minus64 x0 x1 tt) tt in
    let moved = rounded64 65536 c.round_shift.ensures product tt tt in
    fits64 (is_add x1 moved) tt

pub returns : goal.returns
unfolding mean
returns c =
    let x0 = var64 c.args.x0 _ c.requires.first tt in
    let x1 = var64 c.args.x1 _ c.requires.second tt in
    let product = times64 (part_of c.requires.part) (minus64 x0 x1 tt) tt in
    let moved = rounded64 65536 c.round_shift.ensures product tt tt in
    (plus64 x1 moved tt).same
