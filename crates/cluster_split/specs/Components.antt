-- The connected parts that hold a plot, of a graph of plots and tracks.
use Rattle.std.specs.Prelude.{ℕ, ◌<◌, ◌↔◌, List, length, slice_index, map, All, Contains}
use Rattle.std.specs.List.Sorted.{IsStrictlyIncreasing}
use Rattle.cluster_split.specs.declared.splitting.Component.{Component}
use Rattle.cluster_split.specs.Walks.{AreConnected}

abbrev pub least_plot : Component → ℕ
least_plot c = slice_index c.plots 0

-- c is a class of connected plots, with the tracks that they have edges to; both lists rise
pub record IsComponent (plots : ℕ) (edges : List (ℕ × ℕ)) (c : Component) : Type 0 where
  pub some_plot : 0 < length c.plots
  pub plots_rise : IsStrictlyIncreasing c.plots
  pub tracks_rise : IsStrictlyIncreasing c.tracks
  pub connected : (p : ℕ) → Contains c.plots p ↔ ((p < plots) × AreConnected edges (least_plot c) p)
  pub reached : (track : ℕ) → Contains c.tracks track ↔ ((p : ℕ) × Contains c.plots p × Contains edges (p, track))

-- all of them, in the order of their least plot
pub record AreComponents (plots : ℕ) (edges : List (ℕ × ℕ)) (parts : List Component) : Type 0 where
  pub each : All (IsComponent plots edges) parts
  pub order : IsStrictlyIncreasing (map least_plot parts)
  pub whole : (p : ℕ) → p < plots → (c : Component) × Contains parts c × Contains c.plots p
