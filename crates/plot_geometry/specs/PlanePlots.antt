-- A raw plot, put into the plane by the settings of its radar.
use Rattle.trk_base.specs.declared.keys.Key.{Key}
use Rattle.trk_base.specs.declared.plots.RawPlot.{RawPlot}
use Rattle.plot_geometry.specs.declared.radars.RadarSettings.{RadarSettings}
use Rattle.plot_geometry.specs.Plots.{PlanePlot}
use Rattle.plot_geometry.specs.InPlane.{x_of, y_of, rx_of, ry_of}

-- the plot in the plane
unfoldable pub plane_plot : RadarSettings → RawPlot → Key → PlanePlot
plane_plot radar plot key = record {
  key = key;
  x = x_of radar plot;
  y = y_of radar plot;
  rx = rx_of radar plot;
  ry = ry_of radar plot;
  kind = plot.kind;
  spi = plot.spi;
  code = plot.code;
  level = plot.level;
  address = plot.address;
}
