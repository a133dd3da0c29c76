-- The order of plots as a radar reports them.
use Rattle.std.specs.Ordering.{nat_cmp, int_cmp, bool_cmp, ordering_then}
use Rattle.std.specs.Option.{option_cmp}
use Rattle.std.specs.declared.cmp.Ordering.{Ordering}
use Rattle.trk_base.specs.declared.plots.RawPlot.{RawPlot}

-- by what the radar reports of the aircraft: kind, identification, code, level, then address
abbrev pub raw_report_cmp : RawPlot → RawPlot → Ordering
raw_report_cmp a b = ordering_then (nat_cmp a.kind b.kind) (ordering_then (bool_cmp a.spi b.spi) (ordering_then (option_cmp nat_cmp a.code b.code) (ordering_then (option_cmp int_cmp a.level b.level) (option_cmp nat_cmp a.address b.address))))

-- by area code, identification code, time of day, range and azimuth, then by that report
abbrev pub raw_plot_cmp : RawPlot → RawPlot → Ordering
raw_plot_cmp a b =
    ordering_then (nat_cmp a.sac b.sac) (ordering_then (nat_cmp a.sic b.sic) (ordering_then (nat_cmp a.tod b.tod) (ordering_then (nat_cmp a.rho b.rho) (ordering_then (nat_cmp a.theta b.theta) (raw_report_cmp a b)))))
