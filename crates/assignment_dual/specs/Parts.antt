-- A batch in parts. A part is the list of its plots.
use Rattle.std.specs.Prelude.{◌≡◌, ◌<◌, ◌↔◌, ℕ, List, [], length, get_or, map, Contains, IsSome}
use Rattle.std.specs.List.Sorted.{IsStrictlyIncreasing}
use Rattle.assignment_dual.specs.Pairings.{Row}
use Rattle.assignment_dual.specs.Problems.{Problem}
use Rattle.assignment_dual.specs.Rests.{row_at}

abbrev pub part_at : List (List ℕ) → ℕ → List ℕ
part_at parts i = get_or parts i []

-- what stands in a list at these plots
abbrev pub at_plots : {X : Type 0} → X → List X → List ℕ → List X
at_plots none xs plots = map (λ plot. get_or xs plot none) plots

-- the plots of each part rise, each plot is in one part, and no track gates plots of two
pub record AreParts (rows : List Row) (parts : List (List ℕ)) : Type 0 where
  pub rising : (i : ℕ) → IsStrictlyIncreasing (part_at parts i)
  pub inside : (i plot : ℕ) → Contains (part_at parts i) plot → plot < length rows
  pub whole : (plot : ℕ) → plot < length rows → (i : ℕ) × (i < length parts) × Contains (part_at parts i) plot
  pub once : (i j plot : ℕ) → Contains (part_at parts i) plot → Contains (part_at parts j) plot → i ≡ j
  pub apart : (i j plot other track : ℕ) → Contains (part_at parts i) plot → Contains (part_at parts j) other → IsSome (row_at rows plot track) → IsSome (row_at rows other track) → i ≡ j

-- q is the problem of some plots of p alone, with the tracks that gate them: each plot and track is named by its place in these lists
pub record IsPartOf (p : Problem) (own_plots own_tracks : List ℕ) (q : Problem) : Type 0 where
  pub plots : q.plots ≡ length own_plots
  pub tracks : q.tracks ≡ length own_tracks
  pub inside : (i : ℕ) → i < length own_plots → get_or own_plots i 0 < p.plots
  pub edges : (i j cost : ℕ) → i < length own_plots → j < length own_tracks → Contains q.edges (i, j, cost) ↔ Contains p.edges (get_or own_plots i 0, get_or own_tracks j 0, cost)
  pub gates : (i track cost : ℕ) → i < length own_plots → Contains p.edges (get_or own_plots i 0, track, cost) → (j : ℕ) × (j < length own_tracks) × (get_or own_tracks j 0 ≡ track)
