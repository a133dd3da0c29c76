-- The parts, read off a list of the least plots.
use Rattle.std.specs.Prelude.{◌≡◌, ℕ, ◌-◌, ◌<◌, ◌≤◌, ◌==◌, ◌&&◌, ◌||◌, Bool, not, List, [], ◌∷◌, ◌++◌, length, slice_index, map, filter}
use Rattle.std.specs.List.{range_with_len}
use Rattle.cluster_split.specs.declared.splitting.Component.{Component}
use Rattle.cluster_split.specs.Walks.{plot_at, track_at}

-- each plot's least one is no greater, and is its own least one
pub record AreLabelled (least : List ℕ) : Type 0 where
  pub below : (p : ℕ) → p < length least → slice_index least p ≤ p
  pub settled : (p : ℕ) → p < length least → slice_index least (slice_index least p) ≡ slice_index least p

-- those of the first n plots that are least
abbrev pub leasts_below : List ℕ → ℕ → List ℕ
leasts_below least n = filter (λ p. slice_index least p == p) (range_with_len 0 n)

-- those of the first n plots whose least one is r
abbrev pub class_below : List ℕ → ℕ → ℕ → List ℕ
class_below least n r = filter (λ p. slice_index least p == r) (range_with_len 0 n)

-- the edge at i is the first with its track, where the edges stand by track
abbrev pub is_first : List (ℕ × ℕ) → ℕ → Bool
is_first edges i = (i == 0) || not (track_at edges (i - 1) == track_at edges i)

abbrev pub is_first_of : List ℕ → List (ℕ × ℕ) → ℕ → ℕ → Bool
is_first_of least edges r i = is_first edges i && slice_index least (plot_at edges i) == r

-- the tracks of the first n edges, each once, that belong to r
abbrev pub tracks_below : List ℕ → List (ℕ × ℕ) → ℕ → ℕ → List ℕ
tracks_below least edges n r = map (track_at edges) (filter (is_first_of least edges r) (range_with_len 0 n))

abbrev pub component_of : List ℕ → List (ℕ × ℕ) → ℕ → ℕ → ℕ → Component
component_of least edges n m r = record { plots = class_below least n r; tracks = tracks_below least edges m r }

-- the component of each least plot, by the first n plots and the first m edges
abbrev pub components_of : List ℕ → List (ℕ × ℕ) → ℕ → ℕ → List Component
components_of least edges n m = map (component_of least edges n m) (leasts_below least n)

-- places tells for each of the first plots where its component stands
pub record AreIndices (least places : List ℕ) : Type 0 where
  pub inside : (p : ℕ) → p < length places → slice_index places p < length (leasts_below least (length places))
  pub exact : (p : ℕ) → p < length places → slice_index (leasts_below least (length places)) (slice_index places p) ≡ slice_index least p

-- a part without plots and tracks, one with a plot more, and one with a track more
abbrev pub no_component : Component
no_component = record { plots = []; tracks = [] }

abbrev pub with_plot : ℕ → Component → Component
with_plot plot c = record { plots = c.plots ++ plot ∷ []; tracks = c.tracks }

abbrev pub with_track : ℕ → Component → Component
with_track track c = record { plots = c.plots; tracks = c.tracks ++ track ∷ [] }

-- the components by the first n plots, and where each of these belongs
pub record AreGrouped (least : List ℕ) (n : ℕ) (parts : List Component) (places : List ℕ) : Type 0 where
  pub parts_so_far : parts ≡ components_of least [] n 0
  pub places_so_far : AreIndices least places
  pub long : length places ≡ n
