-- A batch: the plots of one radar in one slot.
use Rattle.std.specs.Prelude.{◌≡◌, ◌<◌, ℕ, List, length}
use Rattle.std.specs.List.{AllByRecursion}
use Rattle.std.specs.List.Sorted.{IsStrictlySortedBy}
use Rattle.trk_base.specs.Keys.{key_cmp}
use Rattle.plot_geometry.specs.Plots.{PlanePlot}

-- a radar's index, and plots
pub record Batch : Type 0 where
  pub radar : ℕ
  pub plots : List PlanePlot

-- at least one plot, all of this radar and of one slot, in strictly rising key; a radar's index is one octet
pub record IsBatch (b : Batch) : Type 0 where
  pub octet : b.radar < 256
  pub some : 0 < length b.plots
  pub rising : IsStrictlySortedBy (λ p q. key_cmp p.key q.key) b.plots
  pub of_radar : AllByRecursion (λ p. p.key.radar ≡ b.radar) b.plots
  pub slot : ℕ
  pub of_slot : AllByRecursion (λ p. p.key.slot ≡ slot) b.plots
