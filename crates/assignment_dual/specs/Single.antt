-- The least pairing of one plot.
use Rattle.std.specs.Prelude.{◌≡◌, ◌≤◌, ◌<◌, ℕ, List, Option, Some, None}
use Rattle.trk_base.specs.Limits.{miss_cost}
use Rattle.assignment_dual.specs.Problems.{Edge, edge_at}

-- of the first n edges, all of one plot, x is the first track that costs least, and least its cost; none costs miss_cost
pub record IsNearest (edges : List Edge) (n : ℕ) (x : Option ℕ) (least : ℕ) : Type 0 where
  pub most : least ≤ miss_cost
  pub none : x ≡ None → least ≡ miss_cost
  pub some : (t : ℕ) → x ≡ Some t → (k : ℕ) × (k < n) × ((edge_at edges k).1 ≡ t) × ((edge_at edges k).2 ≡ least)
  pub lowest : (j : ℕ) → j < n → least ≤ (edge_at edges j).2
  pub first : (t j : ℕ) → x ≡ Some t → j < n → (edge_at edges j).2 ≡ least → t ≤ (edge_at edges j).1
