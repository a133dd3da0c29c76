use Rattle.trk_base.proofs.RawPlotOrder.{raw_plot_cmp_total, raw_plot_cmp_exact}
use Rattle.trk_base.proofs.laws.raw_plot_order.Goals as goal

pub returns-clause-total : goal.returns-clause-total
returns-clause-total c = raw_plot_cmp_total

pub returns-clause-exact : goal.returns-clause-exact
returns-clause-exact c = raw_plot_cmp_exact
