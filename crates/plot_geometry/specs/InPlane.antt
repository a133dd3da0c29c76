-- Where a raw plot lies in the plane, by the settings of its radar, and how surely.
use Rattle.std.specs.Prelude.{ℕ, ◌-◌, ◌*◌, ◌^◌, min, ℤ, pos, ◌+ℤ◌, ◌*ℤ◌}
use Rattle.trk_base.specs.declared.plots.RawPlot.{RawPlot}
use Rattle.plot_geometry.specs.declared.radars.RadarSettings.{RadarSettings}
use Rattle.plot_geometry.specs.Turns.{sine_cosine, rotated}
use Rattle.plot_geometry.specs.Plane.{slant_range, azimuth, ground_range, cross_range_sigma, squared_sine, axis_variance}

-- its azimuth from the plane's north, in 360/65,536 degrees
abbrev pub azimuth_of : RadarSettings → RawPlot → ℕ
azimuth_of radar plot = azimuth plot.theta radar.azimuth_bias radar.north

-- its range over the ground, in 1/64 m; the measured one has 16 bits
abbrev pub range_of : RadarSettings → RawPlot → ℕ
range_of radar plot = ground_range (slant_range (min plot.rho 65535) radar.range_bias radar.range_gain) plot.level radar.height

-- how far to the east and to the north it lies, in 1/64 m
abbrev pub x_of : RadarSettings → RawPlot → ℤ
x_of radar plot = pos 64 *ℤ radar.x +ℤ (rotated (azimuth_of radar plot) (pos (range_of radar plot))).0

abbrev pub y_of : RadarSettings → RawPlot → ℤ
y_of radar plot = pos 64 *ℤ radar.y +ℤ (rotated (azimuth_of radar plot) (pos (range_of radar plot))).1

-- the square of its azimuth's sine, in 2 ^ -20; that of the cosine is the rest of one
abbrev pub share_of : RadarSettings → RawPlot → ℕ
share_of radar plot = squared_sine (sine_cosine (azimuth_of radar plot)).0

-- the standard deviations along and across the line of sight, in 1/64 m
abbrev pub along_of : RadarSettings → ℕ
along_of radar = 64 * radar.range_sigma

abbrev pub across_of : RadarSettings → RawPlot → ℕ
across_of radar plot = cross_range_sigma (range_of radar plot) radar.azimuth_sigma

-- the variances to the east and to the north, in (1/64 m) ^ 2: the line of sight lies along the east by the sine, and along the north by the cosine
abbrev pub rx_of : RadarSettings → RawPlot → ℕ
rx_of radar plot = axis_variance (along_of radar) (across_of radar plot) (share_of radar plot) (2 ^ 20 - share_of radar plot)

abbrev pub ry_of : RadarSettings → RawPlot → ℕ
ry_of radar plot = axis_variance (along_of radar) (across_of radar plot) (2 ^ 20 - share_of radar plot) (share_of radar plot)
