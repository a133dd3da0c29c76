-- The entries of the least pairing are chosen plot by plot.
use Rattle.std.specs.Prelude.{◌≡◌, ◌≢◌, ◌<◌, ℕ, ◌+◌, List, length, get_or, Option, Bool, true, false, sum, slice_set}
use Rattle.assignment_dual.specs.declared.graph.Graph.{Graph}
use Rattle.trk_base.specs.Limits.{miss_cost}
use Rattle.assignment_dual.specs.Pairings.{Row}
use Rattle.assignment_dual.specs.First.{rest, IsFirstChoice}
use Rattle.assignment_dual.specs.Vertices.{HasArc, to_of, cost_at, IsOptimal}
use Rattle.assignment_dual.specs.Rests.{ShowsRest}

-- the arc k of p is tight, and its track isn't gone
pub record IsCandidate (g : Graph) (qs : List ℕ) (gone : List Bool) (p k : ℕ) : Type 0 where
  pub arc : HasArc g p k
  pub exact : get_or qs p 0 + get_or qs (to_of g k) 0 ≡ cost_at g k + miss_cost
  pub here : get_or gone (to_of g k) false ≡ false

-- these are the candidates among the arcs of p, in their order
pub record AreCandidates (g : Graph) (qs : List ℕ) (gone : List Bool) (p : ℕ) (tight : List ℕ) : Type 0 where
  pub sound : (i : ℕ) → i < length tight → IsCandidate g qs gone p (get_or tight i 0)
  pub complete : (k : ℕ) → IsCandidate g qs gone p k → (i : ℕ) × (i < length tight) × (get_or tight i 0 ≡ k)
  pub rising : (i j : ℕ) → i < j → j < length tight → get_or tight i 0 < get_or tight j 0

-- with the track of the arc k taken, the least cost isn't reached
pub record Fails (g : Graph) (n : ℕ) (gone : List Bool) (whole k : ℕ) : Type 0 where
  pub prices : List ℕ
  pub mates : List ℕ
  pub resting : IsOptimal g n prices mates (slice_set gone (to_of g k) true)
  pub other : cost_at g k + miss_cost + sum prices ≢ whole

-- The plot p is fixed by the entry x: with it the least cost is reached, with no entry before it,
-- and what is left are the rows after it without its track.
pub record IsFixedBy (g : Graph) (n : ℕ) (gone new : List Bool) (p : ℕ) (x : Option ℕ) (tracks : ℕ) (row : Row) (rows : List Row) : Type 0 where
  pub least : ℕ
  pub choice : IsFirstChoice row rows x least
  pub shows : ShowsRest g n tracks new (p + 1) (rest x rows)
