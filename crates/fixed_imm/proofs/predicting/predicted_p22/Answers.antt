use Rattle.trk_base.proofs.Sizes.{is_abs, is_mul, is_add}
use Rattle.fixed_imm.specs.Prediction.{predicted_p22}
use Rattle.fixed_imm.proofs.Narrow.{var64, times64, plus64, narrowed, fits64}
use Rattle.fixed_imm.proofs.predicting.predicted_p22.Goals as goal

pub overflow_mul-result : goal.overflow_mul-result
overflow_mul-result c =
    let d = var64 c.args.d _ c.requires.time tt in
    let q = var64 c.args.q _ c.requires.noise tt in
    let a = narrowed (is_abs c.abs.ensures.value d) tt in
    fits64 (is_mul q a) tt

pub overflow_add-result : goal.overflow_add-result
overflow_add-result c =
    let p22 = var64 c.args.p22 _ c.requires.last tt in
    let d = var64 c.args.d _ c.requires.time tt in
    let q = var64 c.args.q _ c.requires.noise tt in
    let a = narrowed (is_abs c.abs.ensures.value d) tt in
    fits64 (is_add p22 (times64 q a tt)) tt

pub returns : goal.returns
unfolding predicted_p22
returns c =
    let p22 = var64 c.args.p22 _ c.requires.last tt in
    let d = var64 c.args.d _ c.requires.time tt in
    let q = var64 c.args.q _ c.requires.noise tt in
    let a = narrowed (is_abs c.abs.ensures.value d) tt in
    (plus64 p22 (times64 q a tt) tt).same
