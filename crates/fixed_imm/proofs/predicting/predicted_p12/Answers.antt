use Rattle.std.proofs.Common.{lit≤}
use Rattle.trk_base.proofs.Sizes.{is_abs, is_mul, is_add, size}
use Rattle.fixed_imm.specs.Prediction.{predicted_p12}
use Rattle.fixed_imm.proofs.Narrow.{var64, times64, plus64, rounded64, narrowed, fits64}
use Rattle.fixed_imm.proofs.predicting.predicted_p12.Goals as goal

pub overflow_mul-d : goal.overflow_mul-d
overflow_mul-d c =
    let d = var64 c.args.d _ c.requires.time tt in
    let p22 = var64 c.args.p22 _ c.requires.last tt in
    fits64 (is_mul d p22) tt

pub round_shift-requires-clause-small : goal.round_shift-requires-clause-small
round_shift-requires-clause-small c =
    let d = var64 c.args.d _ c.requires.time tt in
    let p22 = var64 c.args.p22 _ c.requires.last tt in
    size (times64 d p22 tt) (lit≤ tt)

pub overflow_add-result : goal.overflow_add-result
overflow_add-result c =
    let p12 = var64 c.args.p12 _ c.requires.cross tt in
    let d = var64 c.args.d _ c.requires.time tt in
    let p22 = var64 c.args.p22 _ c.requires.last tt in
    let first = rounded64 2048 c.round_shift.ensures (times64 d p22 tt) tt tt in
    fits64 (is_add p12 first) tt

pub overflow_mul-q : goal.overflow_mul-q
overflow_mul-q c =
    let d = var64 c.args.d _ c.requires.time tt in
    let q = var64 c.args.q _ c.requires.noise tt in
    let a = narrowed (is_abs c.abs.ensures.value d) tt in
    fits64 (is_mul q a) tt

pub overflow_mul-q-2 : goal.overflow_mul-q-2
overflow_mul-q-2 c =
    let d = var64 c.args.d _ c.requires.time tt in
    let q = var64 c.args.q _ c.requires.noise tt in
    let a = narrowed (is_abs c.abs.ensures.value d) tt in
    fits64 (is_mul (times64 q a tt) d) tt

pub round_shift-requires-2-clause-small : goal.round_shift-requires-2-clause-small
round_shift-requires-2-clause-small c =
    let d = var64 c.args.d _ c.requires.time tt in
    let q = var64 c.args.q _ c.requires.noise tt in
    let a = narrowed (is_abs c.abs.ensures.value d) tt in
    let noise = times64 (times64 q a tt) d tt in
    size noise (lit≤ tt)

pub overflow_add-result-2 : goal.overflow_add-result-2
overflow_add-result-2 c =
    let p12 = var64 c.args.p12 _ c.requires.cross tt in
    let d = var64 c.args.d _ c.requires.time tt in
    let p22 = var64 c.args.p22 _ c.requires.last tt in
    let first = rounded64 2048 c.round_shift.ensures (times64 d p22 tt) tt tt in
    let q = var64 c.args.q _ c.requires.noise tt in
    let a = narrowed (is_abs c.abs.ensures.value d) tt in
    let noise = times64 (times64 q a tt) d tt in
    let second = rounded64 4096 c.round_shift-2.ensures noise tt tt in
    fits64 (is_add (plus64 p12 first tt) second) tt

pub returns : goal.returns
unfolding predicted_p12
returns c =
    let p12 = var64 c.args.p12 _ c.requires.cross tt in
    let d = var64 c.args.d _ c.requires.time tt in
    let p22 = var64 c.args.p22 _ c.requires.last tt in
    let first = rounded64 2048 c.round_shift.ensures (times64 d p22 tt) tt tt in
    let q = var64 c.args.q _ c.requires.noise tt in
    let a = narrowed (is_abs c.abs.ensures.value d) tt in
    let noise = times64 (times64 q a tt) d tt in
    let second = rounded64 4096 c.round_shift-2.ensures noise tt tt in
    (plus64 (plus64 p12 first tt) second tt).same
