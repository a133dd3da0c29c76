-- A batch's rows, shown by the vertices that are left.
use Rattle.std.specs.Prelude.{◌≡◌, ◌≤◌, ◌<◌, ℕ, ◌+◌, List, length, get_or, Some, None, Bool, true, false}
use Rattle.assignment_dual.specs.declared.graph.Graph.{Graph}
use Rattle.assignment_dual.specs.Vertices.{HasArc, to_of, cost_at}
use Rattle.assignment_dual.specs.Pairings.{Row}

abbrev pub no_row : Row
no_row t = None

abbrev pub row_at : List Row → ℕ → Row
row_at rows p = get_or rows p no_row

-- the track t gates the plot by the arc k
pub record IsGate (g : Graph) (p t c k : ℕ) : Type 0 where
  pub arc : HasArc g p k
  pub to : to_of g k ≡ g.plots + t
  pub cost : cost_at g k ≡ c

-- the rows are those of the plots from p on, and gate what isn't gone
pub record ShowsRest (g : Graph) (n tracks : ℕ) (gone : List Bool) (p : ℕ) (rows : List Row) : Type 0 where
  pub count : p + length rows ≡ g.plots
  pub size : n ≡ g.plots + tracks
  pub before : (v : ℕ) → v < p → get_or gone v false ≡ true
  pub from : (v : ℕ) → p ≤ v → v < g.plots → get_or gone v false ≡ false
  pub has : (i t c : ℕ) → p + i < g.plots → row_at rows i t ≡ Some c → (get_or gone (g.plots + t) false ≡ false) × ((k : ℕ) × IsGate g (p + i) t c k)
  pub of : (i k : ℕ) → p + i < g.plots → HasArc g (p + i) k → (t : ℕ) × (to_of g k ≡ g.plots + t) × (get_or gone (g.plots + t) false ≡ false → row_at rows i t ≡ Some (cost_at g k))
