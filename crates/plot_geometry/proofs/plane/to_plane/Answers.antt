use Rattle.std.proofs.Common.{◌≡◌, ◌∙◌, ap, rules, arith, ◌-◌, ◌*◌, ◌^◌, ◌<◌, ℤ, pos, ◌+ℤ◌, ◌*ℤ◌}
use Rattle.std.specs.Prelude.{FitsSigned, min}
use Rattle.std.specs.Int.{w16, w32, w64}
use Rattle.std.proofs.lemmas.Int.{to_z-of_z, to_z_pos}
use Rattle.trk_base.proofs.Sizes.{var}
use Rattle.plot_geometry.specs.Turns.{sine_cosine, scaled}
use Rattle.plot_geometry.specs.Plane.{slant_range, azimuth, ground_range, cross_range_sigma, squared_sine, axis_variance}
use Rattle.plot_geometry.specs.PlanePlots.{plane_plot}
use Rattle.plot_geometry.proofs.plane.to_plane.Goals as goal

pub returns : goal.returns
unfolding plane_plot
returns c =
    let radar = c.args.radar.now in
    let plot = c.args.plot.now in
    let fits_x : FitsSigned w32 radar.x = search rules in
    let fits_y : FitsSigned w32 radar.y = search rules in
    let fits_height : FitsSigned w16 radar.height = search rules in
    let fits_bias : FitsSigned w16 radar.range_bias = search rules in
    let fits_gain : FitsSigned w16 radar.range_gain = search rules in
    let fits_turn : FitsSigned w16 radar.azimuth_bias = search rules in
    let fits_east : FitsSigned w64 c.scaled.result = search rules in
    let fits_north : FitsSigned w64 c.scaled-2.result = search rules in
    let own_x : FitsSigned w64 c.coordinate.result = search rules in
    let own_y : FitsSigned w64 c.coordinate-2.result = search rules in
    let rho : plot.rho ≡ min plot.rho 65535 = search rules in
    let height = to_z-of_z w16 radar.height fits_height in
    let bias = to_z-of_z w16 radar.range_bias fits_bias in
    let gain = to_z-of_z w16 radar.range_gain fits_gain in
    let turn = to_z-of_z w16 radar.azimuth_bias fits_turn in
    let slant = c.slant_range-slant.ensures.value ∙ (λ i. slant_range (rho i) (bias i) (gain i)) in
    let range = c.ground_range-range.ensures.value ∙ (λ i. ground_range (slant i) plot.level (height i)) in
    let small : c.ground_range-range.result < 2 ^ 63 = omega (arith, c.ground_range-range.ensures.bound, c.slant_range-slant.ensures.bound) in
    let length = to_z_pos w64 c.ground_range-range.result small ∙ ap pos range in
    let angle = c.sine_cosine-sine.ensures.value ∙ ap sine_cosine (c.azimuth.ensures ∙ (λ i. azimuth plot.theta (turn i) radar.north)) in
    let sine = (var c.sine_cosine-sine.result.0 (2 ^ 41) c.sine_cosine-sine.ensures.sine tt).same ∙ ap (λ (p : ℤ × ℤ). p.0) angle in
    let cosine = (var c.sine_cosine-sine.result.1 (2 ^ 41) c.sine_cosine-sine.ensures.cosine tt).same ∙ ap (λ (p : ℤ × ℤ). p.1) angle in
    let east = to_z-of_z w64 c.scaled.result fits_east ∙ c.scaled.ensures.value ∙ (λ i. scaled (length i) (sine i)) in
    let north = to_z-of_z w64 c.scaled-2.result fits_north ∙ c.scaled-2.ensures.value ∙ (λ i. scaled (length i) (cosine i)) in
    let x = to_z-of_z w64 c.coordinate.result own_x ∙ c.coordinate.ensures.value ∙ (λ i. pos 64 *ℤ to_z-of_z w32 radar.x fits_x i +ℤ east i) in
    let y = to_z-of_z w64 c.coordinate-2.result own_y ∙ c.coordinate-2.ensures.value ∙ (λ i. pos 64 *ℤ to_z-of_z w32 radar.y fits_y i +ℤ north i) in
    let along = c.from-along.ensures in
    let across = c.cross_range_sigma-across.ensures.value ∙ ap (λ r. cross_range_sigma r radar.azimuth_sigma) range in
    let share = c.squared_sine-share.ensures.value ∙ ap squared_sine sine in
    let rest : 2 ^ 20 - (2 ^ 20 - c.squared_sine-share.result) ≡ c.squared_sine-share.result = omega (arith, c.squared_sine-share.ensures.bound) in
    let rx = c.axis_variance.ensures.value ∙ (λ i. axis_variance (64 * along i) (across i) (share i) (2 ^ 20 - share i)) in
    let ry = c.axis_variance-2.ensures.value ∙ (λ i. axis_variance (64 * along i) (across i) (2 ^ 20 - share i) ((rest ∙ share) i)) in
    λ i. record {
      key = c.args.key;
      x = x i;
      y = y i;
      rx = rx i;
      ry = ry i;
      kind = plot.kind;
      spi = plot.spi;
      code = plot.code;
      level = plot.level;
      address = plot.address;
    }
