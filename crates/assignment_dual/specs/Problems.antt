-- The assignment problem of a batch, and prices that prove a pairing of it.
use Rattle.std.specs.Prelude.{◌≡◌, ◌<◌, ◌≤◌, ◌⊎◌, ℕ, ◌==◌, ◌&&◌, ℤ, pos, ◌+ℤ◌, ◌≤ℤ◌, List, [], ◌∷◌, Option, Some, None, IfSome, if◌then◌else◌, length, get_or, map}
use Rattle.std.specs.List.{All, fold, range_with_len}
use Rattle.trk_base.specs.Limits.{gate_cost, miss_cost}
use Rattle.assignment_dual.specs.Pairings.{Row, IsPairing, IsLeast, cost}

-- the place of a plot, the place of a track that gates it, and the cost of the gate
abbrev pub Edge : Type 0
Edge = ℕ × ℕ × ℕ

-- how many plots and tracks there are, and the edges between them
pub record Problem : Type 0 where
  pub plots : ℕ
  pub tracks : ℕ
  pub edges : List Edge

-- by the plot, then by the track
abbrev pub EdgeBefore : Edge → Edge → Type 0
EdgeBefore e f = (e.0 < f.0) ⊎ ((e.0 ≡ f.0) × (e.1 < f.1))

abbrev pub edge_at : List Edge → ℕ → Edge
edge_at edges i = get_or edges i (0, 0, 0)

-- the edges strictly rise, their places are in range, and no cost is above 4,096
pub record IsProblem (p : Problem) : Type 0 where
  pub rising : (i j : ℕ) → i < j → j < length p.edges → EdgeBefore (edge_at p.edges i) (edge_at p.edges j)
  pub plots : All (λ e. e.0 < p.plots) p.edges
  pub tracks : All (λ e. e.1 < p.tracks) p.edges
  pub costs : All (λ e. e.2 ≤ gate_cost) p.edges

-- what the tracks cost that have an edge with this plot
abbrev pub row_of : List Edge → ℕ → Row
row_of [] plot track = None
row_of (e ∷ edges) plot track = if (e.0 == plot) && (e.1 == track) then Some e.2 else row_of edges plot track

-- the row of each plot
abbrev pub rows_of : Problem → List Row
rows_of p = map (row_of p.edges) (range_with_len 0 p.plots)

abbrev pub price_at : List ℤ → ℕ → ℤ
price_at prices i = get_or prices i (pos 0)

abbrev pub total : List ℤ → ℤ
total prices = fold ◌+ℤ◌ (pos 0) prices

-- Prices u of the plots and v of the tracks that no edge and no plot alone undercuts, and whose
-- sum is the pairing's cost.
pub record Proves (p : Problem) (xs : List (Option ℕ)) (us vs : List ℤ) : Type 0 where
  pub pairing : IsPairing (rows_of p) xs
  pub plot_prices : length us ≡ p.plots
  pub track_prices : length vs ≡ p.tracks
  pub below_miss : All (λ u. u ≤ℤ pos miss_cost) us
  pub below_zero : All (λ v. v ≤ℤ pos 0) vs
  pub below_cost : All (λ e. (price_at us e.0 +ℤ price_at vs e.1) ≤ℤ pos e.2) p.edges
  pub equal : total us +ℤ total vs ≡ pos (cost (rows_of p) xs)

-- the least pairing, its cost, and prices that prove it
pub record IsSolvedBy (p : Problem) (xs : List (Option ℕ)) (us vs : List ℤ) (c : ℤ) : Type 0 where
  pub least : IsLeast (rows_of p) xs
  pub worth : c ≡ pos (cost (rows_of p) xs)
  pub proves : Proves p xs us vs
  pub tracks : All (λ x. IfSome x (λ t. t < p.tracks)) xs
