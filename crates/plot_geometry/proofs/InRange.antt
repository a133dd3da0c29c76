-- Each plot that the settings and the ranges allow lies within the plane's bound, and so do its variances.
use Rattle.std.proofs.Common.{ℕ, ◌-◌, ◌*◌, ◌^◌, ◌≤◌, arith, ℤ, pos, ◌+ℤ◌, ◌*ℤ◌}
use Rattle.std.specs.Prelude.{unsigned_abs, min}
use Rattle.std.proofs.lemmas.Int.{ints}
use Rattle.trk_base.specs.declared.plots.RawPlot.{RawPlot}
use Rattle.plot_geometry.specs.declared.radars.RadarSettings.{RadarSettings}
use Rattle.plot_geometry.specs.Turns.{sine_cosine, scaled}
use Rattle.plot_geometry.specs.Plane.{slant_range, axis_variance}
use Rattle.plot_geometry.specs.InPlane.{azimuth_of, range_of, along_of, across_of, share_of, x_of, y_of, rx_of, ry_of}
use Rattle.plot_geometry.proofs.Bounds.{sine_small, slant_range_le, ground_range_le, cross_range_sigma_le, squared_sine_le, axis_variance_le, axis_variance_least, scaled_twice}

range_le : (radar : RadarSettings) (plot : RawPlot) → range_of radar plot ≤ 2 ^ 26
range_le radar plot =
    let slant = slant_range_le (min plot.rho 65535) radar.range_bias radar.range_gain (omega arith) radar.range_bias_range radar.range_gain_range in
    omega (arith, slant, ground_range_le (slant_range (min plot.rho 65535) radar.range_bias radar.range_gain) plot.level radar.height slant)

-- a radar at most 1,000 km from the origin, and twice a range
coordinate_in_plane : (radar way : ℤ) (range : ℕ) → unsigned_abs radar ≤ 1000000 → range ≤ 2 ^ 26 → unsigned_abs way ≤ 2 * range → unsigned_abs (pos 64 *ℤ radar +ℤ way) ≤ 256000000
coordinate_in_plane radar way range h k l = omega (arith, ints)

pub x_in_plane : (radar : RadarSettings) (plot : RawPlot) → unsigned_abs (x_of radar plot) ≤ 256000000
x_in_plane radar plot =
    coordinate_in_plane radar.x (scaled (pos (range_of radar plot)) (sine_cosine (azimuth_of radar plot)).0) (range_of radar plot) radar.x_range (range_le radar plot)
    (scaled_twice (pos (range_of radar plot)) (sine_cosine (azimuth_of radar plot)).0 (sine_small (azimuth_of radar plot)).0)

pub y_in_plane : (radar : RadarSettings) (plot : RawPlot) → unsigned_abs (y_of radar plot) ≤ 256000000
y_in_plane radar plot =
    coordinate_in_plane radar.y (scaled (pos (range_of radar plot)) (sine_cosine (azimuth_of radar plot)).1) (range_of radar plot) radar.y_range (range_le radar plot)
    (scaled_twice (pos (range_of radar plot)) (sine_cosine (azimuth_of radar plot)).1 (sine_small (azimuth_of radar plot)).1)

variance_in_range : (radar : RadarSettings) (plot : RawPlot) (cosine sine : ℕ) → cosine ≤ 2 ^ 20 → sine ≤ 2 ^ 20
    → (1 ≤ axis_variance (along_of radar) (across_of radar plot) cosine sine) × (axis_variance (along_of radar) (across_of radar plot) cosine sine ≤ 2 ^ 46)
variance_in_range radar plot cosine sine h k = (
  axis_variance_least (along_of radar) (across_of radar plot) cosine sine,
  axis_variance_le (along_of radar) (across_of radar plot) cosine sine (omega (arith, radar.range_sigma_range)) (cross_range_sigma_le (range_of radar plot) radar.azimuth_sigma (range_le radar plot) radar.azimuth_sigma_range.1) h k,
)

pub rx_in_range : (radar : RadarSettings) (plot : RawPlot) → (1 ≤ rx_of radar plot) × (rx_of radar plot ≤ 2 ^ 46)
rx_in_range radar plot = variance_in_range radar plot (share_of radar plot) (2 ^ 20 - share_of radar plot) (squared_sine_le (sine_cosine (azimuth_of radar plot)).0) (omega arith)

pub ry_in_range : (radar : RadarSettings) (plot : RawPlot) → (1 ≤ ry_of radar plot) × (ry_of radar plot ≤ 2 ^ 46)
ry_in_range radar plot = variance_in_range radar plot (2 ^ 20 - share_of radar plot) (share_of radar plot) (omega arith) (squared_sine_le (sine_cosine (azimuth_of radar plot)).0)
