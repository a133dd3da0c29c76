-- The edges of a component, in which plots and tracks are named by their indices in the component.
use Rattle.std.specs.Prelude.{ℕ, suc, List, [], ◌∷◌, ◌++◌, ◌==◌, nat_lt, length, map}
use Rattle.std.specs.List.{filter}
use Rattle.assignment_dual.specs.Problems.{Edge}

-- the index of a number in a list that rises: how many are below it
abbrev pub index_of : List ℕ → ℕ → ℕ
index_of ns n = length (filter (λ m. nat_lt m n) ns)

-- the edges of one plot
abbrev pub edges_at : List Edge → ℕ → List Edge
edges_at edges plot = filter (λ e. e.0 == plot) edges

-- an edge, with the index of its plot in the component and that of its track
abbrev pub own_edge : List ℕ → ℕ → Edge → Edge
own_edge tracks i e = (i, index_of tracks e.1, e.2)

-- the edges of these plots, of which the first has index i in the component
abbrev pub component_edges : List Edge → List ℕ → ℕ → List ℕ → List Edge
component_edges edges tracks i [] = []
component_edges edges tracks i (plot ∷ plots) = map (own_edge tracks i) (edges_at edges plot) ++ component_edges edges tracks (suc i) plots
