use Rattle.std.proofs.Common.{lit≤}
use Rattle.trk_base.proofs.Sizes.{is_mul, is_add, size}
use Rattle.fixed_imm.specs.Prediction.{predicted_p}
use Rattle.fixed_imm.proofs.Narrow.{var64, times64, plus64, rounded64, fits64}
use Rattle.fixed_imm.proofs.predicting.predicted_p.Goals as goal

pub overflow_mul-v : goal.overflow_mul-v
overflow_mul-v c =
    let v = var64 c.args.v _ c.requires.second tt in
    let d = var64 c.args.d _ c.requires.time tt in
    fits64 (is_mul v d) tt

pub round_shift-requires-clause-small : goal.round_shift-requires-clause-small
round_shift-requires-clause-small c =
    let v = var64 c.args.v _ c.requires.second tt in
    let d = var64 c.args.d _ c.requires.time tt in
    size (times64 v d tt) (lit≤ tt)

pub overflow_add-result : goal.overflow_add-result
overflow_add-result c =
    let p = var64 c.args.p _ c.requires.first tt in
    let v = var64 c.args.v _ c.requires.second tt in
    let d = var64 c.args.d _ c.requires.time tt in
    let carried = rounded64 2048 c.round_shift.ensures (times64 v d tt) tt tt in
    fits64 (is_add p carried) tt

pub returns : goal.returns
unfolding predicted_p
returns c =
    let p = var64 c.args.p _ c.requires.first tt in
    let v = var64 c.args.v _ c.requires.second tt in
    let d = var64 c.args.d _ c.requires.time tt in
    let carried = rounded64 2048 c.round_shift.ensures (times64 v d tt) tt tt in
    (plus64 p carried tt).same
