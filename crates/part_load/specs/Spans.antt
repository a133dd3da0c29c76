-- What a span of plots is asked to be.
use Rattle.std.specs.Prelude.{◌≡◌, ◌<◌, ◌-◌, ℕ, List, get_or, length}
use Rattle.std.specs.declared.cmp.Ordering.TheVariants.{Less}
use Rattle.trk_base.specs.Keys.{key_cmp}
use Rattle.plot_geometry.specs.Plots.{PlanePlot}

-- the plot at this index has a higher key than the one before it, if there is one
pub record IsAbove (ps : List PlanePlot) (i : ℕ) : Type 0 where
  pub above : (d : PlanePlot) → 0 < i → key_cmp (get_or ps (i - 1) d).key (get_or ps i d).key ≡ Less

-- the first plot, if there is one, is of this slot
pub record BeginsIn (n : ℕ) (ps : List PlanePlot) : Type 0 where
  pub first : (d : PlanePlot) → 0 < length ps → (get_or ps 0 d).key.slot ≡ n
