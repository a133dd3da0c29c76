use Rattle.std.proofs.Common.{◌∙◌, ap, sym, rules, ◌*◌, ◌-◌, ◌^◌}
use Rattle.std.specs.Prelude.{FitsSigned, unsigned_abs}
use Rattle.std.specs.Int.{w16}
use Rattle.std.proofs.lemmas.Int.{to_z-of_z}
use Rattle.trk_base.specs.Numbers.{isqrt}
use Rattle.trk_base.proofs.Sizes.{var}
use Rattle.plot_geometry.specs.Plane.{ground_range, height_above}
use Rattle.plot_geometry.proofs.plane.ground_range.Goals as goal

pub returns-in-None-clause-value : goal.returns-in-None-clause-value
unfolding ground_range
returns-in-None-clause-value c = sym (ap (λ l. ground_range c.args.slant l c.args.height) c.in-None.is)

pub returns-in-Some-clause-value : goal.returns-in-Some-clause-value
unfolding ground_range
returns-in-Some-clause-value c =
    let fits : FitsSigned w16 c.in-Some.level = search rules in
    let height = to_z-of_z w16 c.args.height c.ranges.height in
    let above = c.height_above.ensures.value ∙ (λ i. height_above (to_z-of_z w16 c.in-Some.level fits i) (height i)) in
    let size = c.unsigned_abs-above.ensures.value ∙ ap unsigned_abs ((var c.height_above.result (2 ^ 30) c.height_above.ensures.bound tt).same ∙ above) in
    let slant = c.from-slant.ensures in
    c.isqrt.ensures.value ∙ ap isqrt (c.saturating_sub.ensures ∙ (λ i. slant i * slant i - size i * size i)) ∙ sym (ap (λ l. ground_range c.args.slant l c.args.height) c.in-Some.is)
