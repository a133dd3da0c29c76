use Rattle.plot_geometry.specs.BiasOrder.{bias_cmp_total, bias_cmp_exact}
use Rattle.plot_geometry.proofs.laws.bias_order.Goals as goal

pub returns-clause-total : goal.returns-clause-total
returns-clause-total c = bias_cmp_total

pub returns-clause-exact : goal.returns-clause-exact
returns-clause-exact c = bias_cmp_exact
