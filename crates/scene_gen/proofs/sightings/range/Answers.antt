use Rattle.std.proofs.Common.{◌∙◌, ap, ℕ, ◌+◌, ◌*◌, ◌/◌}
use Rattle.scene_gen.specs.Sightings.{range, slant}
use Rattle.scene_gen.proofs.sightings.range.Goals as goal

pub returns : goal.returns
unfolding range
returns c = ap (λ (n : ℕ). (2 * n + 463) / (2 * 463)) (c.slant.ensures.value ∙ ap (slant c.args.point.0 c.args.point.1) c.height.ensures.value)
