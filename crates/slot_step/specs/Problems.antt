-- The gates of a batch as an assignment problem, in which a plot is named by its index in the batch
-- and a track by its index in the table.
use Rattle.std.specs.Prelude.{◌≡◌, ◌↔◌, ℕ, List, length, Option, Some, Contains}
use Rattle.assignment_dual.specs.Problems.{Problem, IsProblem}
use Rattle.slot_step.specs.Certificates.{IsAt}

-- the track at index j gates the plot at index i, at this cost
pub record IsGateBetween {T P : Type 0} (gate : T → P → Option ℕ) (ts : List T) (ps : List P) (i j cost : ℕ) : Type 0 where
  pub plot : P
  pub track : T
  pub plot_at : IsAt ps i plot
  pub track_at : IsAt ts j track
  pub gate_is : gate track plot ≡ Some cost

-- its edges are the gates, all of them and no others
pub record IsProblemOf {T P : Type 0} (gate : T → P → Option ℕ) (ts : List T) (ps : List P) (p : Problem) : Type 0 where
  pub problem : IsProblem p
  pub plot_count : p.plots ≡ length ps
  pub track_count : p.tracks ≡ length ts
  pub edges_are : (i j cost : ℕ) → Contains p.edges (i, j, cost) ↔ IsGateBetween gate ts ps i j cost
