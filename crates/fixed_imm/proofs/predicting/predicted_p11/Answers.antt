use Rattle.std.proofs.Common.{lit<, lit≤}
use Rattle.trk_base.proofs.Sizes.{times, plus, rounded, is_pos, is_abs, is_mul, is_add, fits, size}
use Rattle.fixed_imm.specs.Prediction.{predicted_p11}
use Rattle.fixed_imm.proofs.Narrow.{var64, times64, plus64, rounded64, widened, narrowed, fits64}
use Rattle.fixed_imm.proofs.predicting.predicted_p11.Goals as goal

pub overflow_mul-carried-2 : goal.overflow_mul-carried-2
overflow_mul-carried-2 c =
    let d = var64 c.args.d _ c.requires.time tt in
    let p12 = var64 c.args.p12 _ c.requires.cross tt in
    fits (is_mul (widened (times64 (is_pos {n = 4096}) d tt) tt) (widened p12 tt)) (lit< tt)

pub overflow_mul-carried-4 : goal.overflow_mul-carried-4
overflow_mul-carried-4 c =
    let d = var64 c.args.d _ c.requires.time tt in
    let p22 = var64 c.args.p22 _ c.requires.last tt in
    fits (is_mul (widened (times64 d d tt) tt) (widened p22 tt)) (lit< tt)

pub overflow_add-carried : goal.overflow_add-carried
overflow_add-carried c =
    let d = var64 c.args.d _ c.requires.time tt in
    let p12 = var64 c.args.p12 _ c.requires.cross tt in
    let p22 = var64 c.args.p22 _ c.requires.last tt in
    let cross = times (widened (times64 (is_pos {n = 4096}) d tt) tt) (widened p12 tt) tt in
    let square = times (widened (times64 d d tt) tt) (widened p22 tt) tt in
    fits (is_add cross square) (lit< tt)

pub round_shift_wide-requires-clause-small : goal.round_shift_wide-requires-clause-small
round_shift_wide-requires-clause-small c =
    let d = var64 c.args.d _ c.requires.time tt in
    let p12 = var64 c.args.p12 _ c.requires.cross tt in
    let p22 = var64 c.args.p22 _ c.requires.last tt in
    let cross = times (widened (times64 (is_pos {n = 4096}) d tt) tt) (widened p12 tt) tt in
    let square = times (widened (times64 d d tt) tt) (widened p22 tt) tt in
    size (plus cross square tt) (lit≤ tt)

pub overflow_cast-result : goal.overflow_cast-result
overflow_cast-result c =
    let d = var64 c.args.d _ c.requires.time tt in
    let p12 = var64 c.args.p12 _ c.requires.cross tt in
    let p22 = var64 c.args.p22 _ c.requires.last tt in
    let cross = times (widened (times64 (is_pos {n = 4096}) d tt) tt) (widened p12 tt) tt in
    let square = times (widened (times64 d d tt) tt) (widened p22 tt) tt in
    fits64 (rounded 4194304 c.round_shift_wide.ensures (plus cross square tt) tt tt) tt

pub overflow_add-result : goal.overflow_add-result
overflow_add-result c =
    let p11 = var64 c.args.p11 _ c.requires.first tt in
    let d = var64 c.args.d _ c.requires.time tt in
    let p12 = var64 c.args.p12 _ c.requires.cross tt in
    let p22 = var64 c.args.p22 _ c.requires.last tt in
    let cross = times (widened (times64 (is_pos {n = 4096}) d tt) tt) (widened p12 tt) tt in
    let square = times (widened (times64 d d tt) tt) (widened p22 tt) tt in
    let first = narrowed (rounded 4194304 c.round_shift_wide.ensures (plus cross square tt) tt tt) tt in
    fits64 (is_add p11 first) tt

pub overflow_mul-q : goal.overflow_mul-q
overflow_mul-q c =
    let d = var64 c.args.d _ c.requires.time tt in
    let q = var64 c.args.q _ c.requires.noise tt in
    let a = narrowed (is_abs c.abs.ensures.value d) tt in
    fits64 (is_mul q a) tt

pub overflow_mul-q-2 : goal.overflow_mul-q-2
overflow_mul-q-2 c =
    let d = var64 c.args.d _ c.requires.time tt in
    let q = var64 c.args.q _ c.requires.noise tt in
    let a = narrowed (is_abs c.abs.ensures.value d) tt in
    fits64 (is_mul (times64 q a tt) d) tt

pub overflow_mul-q-3 : goal.overflow_mul-q-3
overflow_mul-q-3 c =
    let d = var64 c.args.d _ c.requires.time tt in
    let q = var64 c.args.q _ c.requires.noise tt in
    let a = narrowed (is_abs c.abs.ensures.value d) tt in
    fits64 (is_mul (times64 (times64 q a tt) d tt) d) tt

pub round_narrow-requires-clause-small : goal.round_narrow-requires-clause-small
round_narrow-requires-clause-small c =
    let d = var64 c.args.d _ c.requires.time tt in
    let q = var64 c.args.q _ c.requires.noise tt in
    let a = narrowed (is_abs c.abs.ensures.value d) tt in
    let noise = times64 (times64 (times64 q a tt) d tt) d tt in
    size noise (lit≤ tt)

pub overflow_add-result-2 : goal.overflow_add-result-2
overflow_add-result-2 c =
    let p11 = var64 c.args.p11 _ c.requires.first tt in
    let d = var64 c.args.d _ c.requires.time tt in
    let p12 = var64 c.args.p12 _ c.requires.cross tt in
    let p22 = var64 c.args.p22 _ c.requires.last tt in
    let cross = times (widened (times64 (is_pos {n = 4096}) d tt) tt) (widened p12 tt) tt in
    let square = times (widened (times64 d d tt) tt) (widened p22 tt) tt in
    let first = narrowed (rounded 4194304 c.round_shift_wide.ensures (plus cross square tt) tt tt) tt in
    let q = var64 c.args.q _ c.requires.noise tt in
    let a = narrowed (is_abs c.abs.ensures.value d) tt in
    let noise = times64 (times64 (times64 q a tt) d tt) d tt in
    let third = rounded64 12582912 c.round_narrow.ensures noise tt tt in
    fits64 (is_add (plus64 p11 first tt) third) tt

pub returns : goal.returns
unfolding predicted_p11
returns c =
    let p11 = var64 c.args.p11 _ c.requires.first tt in
    let d = var64 c.args.d _ c.requires.time tt in
    let p12 = var64 c.args.p12 _ c.requires.cross tt in
    let p22 = var64 c.args.p22 _ c.requires.last tt in
    let cross = times (widened (times64 (is_pos {n = 4096}) d tt) tt) (widened p12 tt) tt in
    let square = times (widened (times64 d d tt) tt) (widened p22 tt) tt in
    let first = narrowed (rounded 4194304 c.round_shift_wide.ensures (plus cross square tt) tt tt) tt in
    let q = var64 c.args.q _ c.requires.noise tt in
    let a = narrowed (is_abs c.abs.ensures.value d) tt in
    let noise = times64 (times64 (times64 q a tt) d tt) d tt in
    let third = rounded64 12582912 c.round_narrow.ensures noise tt tt in
    (plus64 (plus64 p11 first tt) third tt).same
