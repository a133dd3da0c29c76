-- The same of axes that are mixed already.
use Rattle.std.specs.Prelude.{ℕ, ◌+◌, Option, ℤ, ◌-ℤ◌, unsigned_abs}
use Rattle.plot_geometry.specs.Plots.{PlanePlot}
use Rattle.fixed_imm.specs.Values.{AxisState}
use Rattle.fixed_imm.specs.Filter.{moved, together}
use Rattle.gating.specs.Gating.{cost_of}

unfoldable pub mixed_innovation : AxisState → ℤ → ℤ → ℤ
mixed_innovation axis d z = z -ℤ (together (moved axis d)).0

unfoldable pub mixed_variance : AxisState → ℤ → ℕ → ℕ
mixed_variance axis d r = unsigned_abs (together (moved axis d)).2 + r

unfoldable pub mixed_cost : AxisState → AxisState → ℤ → PlanePlot → Option ℕ
mixed_cost x y d p = cost_of (mixed_innovation x d p.x) (mixed_variance x d p.rx) (mixed_innovation y d p.y) (mixed_variance y d p.ry)
