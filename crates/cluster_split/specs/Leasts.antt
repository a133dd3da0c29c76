-- The least plot that each plot is connected with.
use Rattle.std.specs.Prelude.{◌≡◌, ℕ, ◌<◌, ◌≤◌, List, length, slice_index, Contains, min, max, nat_eq, if◌then◌else◌}
use Rattle.cluster_split.specs.Walks.{AreConnected, plot_at, track_at}

-- below each plot stands a plot that is no greater
abbrev pub Falls : List ℕ → Type 0
Falls lower = (p : ℕ) → p < length lower → slice_index lower p ≤ p

-- a label stays the same on the way down, and a plot where the way ends is its own label
pub record IsLabelled (lower : List ℕ) (label : ℕ → ℕ) : Type 0 where
  pub kept : (p : ℕ) → p < length lower → label (slice_index lower p) ≡ label p
  pub ends : (p : ℕ) → p < length lower → slice_index lower p ≡ p → label p ≡ p

-- the labels a and b become the lesser of both
abbrev pub merged : ℕ → ℕ → (ℕ → ℕ) → ℕ → ℕ
merged a b label p = if nat_eq (label p) (max a b) then min a b else label p

-- lower has labels by which plots are connected, and that are alike for plots that share a track among the first n edges
pub record HasLabels (edges : List (ℕ × ℕ)) (n : ℕ) (lower : List ℕ) : Type 0 where
  pub label : ℕ → ℕ
  pub labelled : IsLabelled lower label
  pub below : (p : ℕ) → label p ≤ p
  pub connected : (p : ℕ) → AreConnected edges p (label p)
  pub joined : (i j : ℕ) → i < n → j < n → track_at edges i ≡ track_at edges j → label (plot_at edges i) ≡ label (plot_at edges j)

-- least has a plot for each plot: one that is connected with it and no greater, and the same for plots that share a track
pub record AreLeasts (plots : ℕ) (edges : List (ℕ × ℕ)) (least : List ℕ) : Type 0 where
  pub long : length least ≡ plots
  pub below : (p : ℕ) → p < plots → slice_index least p ≤ p
  pub connected : (p : ℕ) → p < plots → AreConnected edges p (slice_index least p)
  pub joined : (p q track : ℕ) → Contains edges (p, track) → Contains edges (q, track) → slice_index least p ≡ slice_index least q
  pub settled : (p : ℕ) → p < plots → slice_index least (slice_index least p) ≡ slice_index least p
