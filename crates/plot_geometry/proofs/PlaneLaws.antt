-- What a plot keeps as it is put into the plane.
use Rattle.std.proofs.Common.{◌≡◌, refl}
use Rattle.trk_base.specs.declared.keys.Key.{Key}
use Rattle.trk_base.specs.declared.plots.RawPlot.{RawPlot}
use Rattle.plot_geometry.specs.declared.radars.RadarSettings.{RadarSettings}
use Rattle.plot_geometry.specs.PlanePlots.{plane_plot}

pub key-plane_plot : (radar : RadarSettings) (plot : RawPlot) (key : Key) → (plane_plot radar plot key).key ≡ key
unfolding plane_plot
key-plane_plot radar plot key = refl

pub kind-plane_plot : (radar : RadarSettings) (plot : RawPlot) (key : Key) → (plane_plot radar plot key).kind ≡ plot.kind
unfolding plane_plot
kind-plane_plot radar plot key = refl

pub spi-plane_plot : (radar : RadarSettings) (plot : RawPlot) (key : Key) → (plane_plot radar plot key).spi ≡ plot.spi
unfolding plane_plot
spi-plane_plot radar plot key = refl

pub code-plane_plot : (radar : RadarSettings) (plot : RawPlot) (key : Key) → (plane_plot radar plot key).code ≡ plot.code
unfolding plane_plot
code-plane_plot radar plot key = refl

pub level-plane_plot : (radar : RadarSettings) (plot : RawPlot) (key : Key) → (plane_plot radar plot key).level ≡ plot.level
unfolding plane_plot
level-plane_plot radar plot key = refl

pub address-plane_plot : (radar : RadarSettings) (plot : RawPlot) (key : Key) → (plane_plot radar plot key).address ≡ plot.address
unfolding plane_plot
address-plane_plot radar plot key = refl
