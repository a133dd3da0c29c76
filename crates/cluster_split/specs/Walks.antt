-- Plots that are joined by a walk of edges. An edge is a plot and a track.
use Rattle.std.specs.Prelude.{◌≡◌, ℕ, List, [], ◌∷◌, Contains, slice_index_or}

-- both plots have an edge to one track
pub record ShareTrack (edges : List (ℕ × ℕ)) (p q : ℕ) : Type 0 where
  pub track : ℕ
  pub one : Contains edges (p, track)
  pub other : Contains edges (q, track)

-- these plots lead from plot p to plot q: each shares a track with the one before it
abbrev pub IsWalk : List (ℕ × ℕ) → ℕ → List ℕ → ℕ → Type 0
IsWalk edges p [] q = p ≡ q
IsWalk edges p (r ∷ rest) q = ShareTrack edges p r × IsWalk edges r rest q

-- a walk of edges joins plot p and plot q
pub record AreConnected (edges : List (ℕ × ℕ)) (p q : ℕ) : Type 0 where
  pub plots : List ℕ
  pub walk : IsWalk edges p plots q

abbrev pub plot_at : List (ℕ × ℕ) → ℕ → ℕ
plot_at edges i = (slice_index_or edges i (0, 0)).0

abbrev pub track_at : List (ℕ × ℕ) → ℕ → ℕ
track_at edges i = (slice_index_or edges i (0, 0)).1
