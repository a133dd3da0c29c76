use Rattle.plot_geometry.specs.PlotOrder.{plot_cmp_total, plot_cmp_exact, key_first}
use Rattle.plot_geometry.proofs.laws.plot_order.Goals as goal

pub returns-clause-key_first : goal.returns-clause-key_first
returns-clause-key_first c = key_first

pub returns-clause-total : goal.returns-clause-total
returns-clause-total c = plot_cmp_total

pub returns-clause-exact : goal.returns-clause-exact
returns-clause-exact c = plot_cmp_exact
