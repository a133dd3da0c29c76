use Rattle.std.proofs.Common.{◌∙◌, ap, cond, ℕ}
use Rattle.scene_gen.specs.Bearings.{bearing, bearing_from, quarter}
use Rattle.scene_gen.proofs.bearings.bearing.Goals as goal

pub returns-then-eq : goal.returns-then-eq
unfolding bearing
returns-then-eq c = ap (λ t. cond t 0 (bearing_from 14 (quarter c.args.point.0 c.args.point.1) c.args.point.0 c.args.point.1)) c.if-eq.ensures

pub returns-else-eq : goal.returns-else-eq
unfolding bearing
returns-else-eq c =
    c.bearing_from.ensures ∙ ap (λ (n : ℕ). bearing_from 14 n c.args.point.0 c.args.point.1) c.quarter.ensures.value
    ∙ ap (λ t. cond t 0 (bearing_from 14 (quarter c.args.point.0 c.args.point.1) c.args.point.0 c.args.point.1)) c.if-eq.ensures
