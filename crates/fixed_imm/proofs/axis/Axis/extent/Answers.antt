use Rattle.std.proofs.Common.{◌≡◌, ◌∙◌, ◌*◌, ◌/◌, max, ap, lit≤}
use Rattle.std.specs.Prelude.{unsigned_abs}
use Rattle.std.specs.Int.{w32}
use Rattle.std.proofs.lemmas.Int.{to_z-of_z}
use Rattle.trk_base.proofs.Sizes.{size}
use Rattle.fixed_imm.specs.Values.{AxisState}
use Rattle.fixed_imm.proofs.Narrow.{narrowed, fits64}
use Rattle.fixed_imm.proofs.Fields.{v_of}
use Rattle.fixed_imm.proofs.Extents.{speed_of, extent_seen, least_read, greatest_read}
use Rattle.fixed_imm.proofs.axis.Axis.extent.Goals as goal
use Rattle.fixed_imm.proofs.axis.Axis.extent.Goals.{After-min}

quotient_of : (c : After-min) → c.max-speed.result * c.from.result / 2048 ≡ speed_of c.self.inside.motion.0 c.self.inside.motion.1 * unsigned_abs c.args.span / 2048
quotient_of c =
    let first = c.unsigned_abs.ensures.value ∙ ap unsigned_abs (v_of _ c.self.invariant.first).same in
    let second = c.unsigned_abs-2.ensures.value ∙ ap unsigned_abs (v_of _ c.self.invariant.second).same in
    let speed = c.max-speed.ensures ∙ (λ j. max (first j) (second j)) in
    let span = c.from.ensures ∙ c.unsigned_abs-3.ensures.value ∙ ap unsigned_abs (to_z-of_z w32 c.args.span c.ranges.span) in
    λ j. speed j * span j / 2048

pub overflow_sub-result : goal.overflow_sub-result
overflow_sub-result c =
    fits64 (least_read _ _ c.args.span _ _ c.self.invariant.first c.self.invariant.second c.requires (quotient_of c) c.min.ensures.value) tt

pub overflow_add-result : goal.overflow_add-result
overflow_add-result c =
    let at = (goal.at.overflow_add-result c).After-min in
    fits64 (greatest_read _ _ c.args.span _ _ c.self.invariant.first c.self.invariant.second c.requires (quotient_of at) c.max.ensures.value) tt

pub returns-clause-extent : goal.returns-clause-extent
returns-clause-extent c =
    let at = (goal.at.returns-clause-extent c).After-min in
    let first = c.self.invariant.first in
    let second = c.self.invariant.second in
    let a : AxisState = record { motion = c.self.inside.motion; weight = c.self.inside.weight } in
    let least = (narrowed (least_read _ _ c.args.span _ _ first second c.requires (quotient_of at) c.min.ensures.value) tt).same in
    let greatest = (narrowed (greatest_read _ _ c.args.span _ _ first second c.requires (quotient_of at) c.max.ensures.value) tt).same in
    extent_seen a c.args.self.now c.args.span _ _ c.self.invariant c.self.view_is least greatest

pub returns-clause-least : goal.returns-clause-least
returns-clause-least c =
    let at = (goal.at.returns-clause-least c).After-min in
    size (narrowed (least_read _ _ c.args.span _ _ c.self.invariant.first c.self.invariant.second c.requires (quotient_of at) c.min.ensures.value) tt) (lit≤ tt)

pub returns-clause-greatest : goal.returns-clause-greatest
returns-clause-greatest c =
    let at = (goal.at.returns-clause-greatest c).After-min in
    size (narrowed (greatest_read _ _ c.args.span _ _ c.self.invariant.first c.self.invariant.second c.requires (quotient_of at) c.max.ensures.value) tt) (lit≤ tt)
