use Rattle.std.proofs.Common.{lit<, lit≤}
use Rattle.trk_base.proofs.Sizes.{times, rounded, is_mul, is_add, fits, size}
use Rattle.fixed_imm.specs.Mixing.{covariance}
use Rattle.fixed_imm.proofs.Narrow.{var64, times64, plus64, rounded64, widened, narrowed, fits64}
use Rattle.fixed_imm.proofs.Fields.{part_of, rest_of, inside_of}
use Rattle.fixed_imm.proofs.mixing.covariance.Goals as goal

pub overflow_mul-inside : goal.overflow_mul-inside
overflow_mul-inside c = fits64 (is_mul (part_of c.requires.part) (var64 c.args.q0 _ c.requires.first tt)) tt

pub overflow_mul-inside-2 : goal.overflow_mul-inside-2
overflow_mul-inside-2 c = fits64 (is_mul (rest_of c.requires.part) (var64 c.args.q1 _ c.requires.second tt)) tt

pub overflow_add-inside : goal.overflow_add-inside
overflow_add-inside c = fits64 (inside_of c.args.q0 c.args.q1 c.requires.part c.requires.first c.requires.second) tt

pub overflow_mul-between-2 : goal.overflow_mul-between-2
overflow_mul-between-2 c =
    let g = part_of c.requires.part in
    let rest = rest_of c.requires.part in
    let spread = var64 c.args.spread _ c.requires.spread tt in
    fits (is_mul (widened (times64 g rest tt) tt) (widened spread tt)) (lit< tt)

pub round_shift-requires-clause-small : goal.round_shift-requires-clause-small
round_shift-requires-clause-small c = size (narrowed (inside_of c.args.q0 c.args.q1 c.requires.part c.requires.first c.requires.second) tt) (lit≤ tt)

pub round_shift_wide-requires-clause-small : goal.round_shift_wide-requires-clause-small
round_shift_wide-requires-clause-small c =
    let g = part_of c.requires.part in
    let rest = rest_of c.requires.part in
    let spread = var64 c.args.spread _ c.requires.spread tt in
    size (times (widened (times64 g rest tt) tt) (widened spread tt) tt) (lit≤ tt)

pub overflow_cast-result : goal.overflow_cast-result
overflow_cast-result c =
    let g = part_of c.requires.part in
    let rest = rest_of c.requires.part in
    let spread = var64 c.args.spread _ c.requires.spread tt in
    let between = times (widened (times64 g rest tt) tt) (widened spread tt) tt in
    fits64 (rounded 4294967296 c.round_shift_wide.ensures between tt tt) tt

pub overflow_add-result : goal.overflow_add-result
overflow_add-result c =
    let g = part_of c.requires.part in
    let rest = rest_of c.requires.part in
    let spread = var64 c.args.spread _ c.requires.spread tt in
    let inside = narrowed (inside_of c.args.q0 c.args.q1 c.requires.part c.requires.first c.requires.second) tt in
    let between = times (widened (times64 g rest tt) tt) (widened spread tt) tt in
    fits64 (is_add (rounded64 65536 c.round_shift.ensures inside tt tt) (narrowed (rounded 4294967296 c.round_shift_wide.ensures between tt tt) tt)) tt

pub returns : goal.returns
unfolding covariance
returns c =
    let g = part_of c.requires.part in
    let rest = rest_of c.requires.part in
    let spread = var64 c.args.spread _ c.requires.spread tt in
    let inside = narrowed (inside_of c.args.q0 c.args.q1 c.requires.part c.requires.first c.requires.second) tt in
    let between = times (widened (times64 g rest tt) tt) (widened spread tt) tt in
    (plus64 (rounded64 65536 c.round_shift.ensures inside tt tt) (narrowed (rounded 4294967296 c.round_shift_wide.ensures between tt tt) tt) tt).same
