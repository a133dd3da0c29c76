-- Prices that rise at the mates in a search tree and fall at its vertices.
use Rattle.std.specs.Prelude.{◌≡◌, ◌≢◌, ◌≤◌, ◌<◌, ℕ, ◌+◌, List, Bool, false, length, get_or}
use Rattle.assignment_dual.specs.declared.graph.Graph.{Graph}
use Rattle.assignment_dual.specs.declared.search.Node.{Node}
use Rattle.assignment_dual.specs.Vertices.{HasArc, to_of, cost_at}
use Rattle.assignment_dual.specs.Search.{vertex_at, mate_at}
use Rattle.trk_base.specs.Limits.{miss_cost}

-- v's price may rise by d: it stays within what v pays alone, and no arc to a vertex that isn't seen is undercut
pub record HasSlack (g : Graph) (qs : List ℕ) (seen : List Bool) (v d : ℕ) : Type 0 where
  pub alone : get_or qs v 0 + d ≤ miss_cost
  pub arcs : (k : ℕ) → HasArc g v k → get_or seen (to_of g k) false ≡ false → get_or qs v 0 + get_or qs (to_of g k) 0 + d ≤ cost_at g k + miss_cost

-- the price of each node's mate may rise by d
pub record AllHaveSlack (g : Graph) (qs ms : List ℕ) (seen : List Bool) (tree : List Node) (d : ℕ) : Type 0 where
  pub room : (i : ℕ) → i < length tree → HasSlack g qs seen (mate_at ms tree i) d

-- from one list to the other the numbers at `place i`, for i from `from` on and below `upto`, rise by d, and the others stay
pub record AreRaised (old new : List ℕ) (place : ℕ → ℕ) (from upto d : ℕ) : Type 0 where
  pub count : length new ≡ length old
  pub raised : (i : ℕ) → from ≤ i → i < upto → get_or new (place i) 0 ≡ get_or old (place i) 0 + d
  pub others : (v : ℕ) → ((i : ℕ) → from ≤ i → i < upto → place i ≢ v) → get_or new v 0 ≡ get_or old v 0

-- the mates of all nodes and the vertices of all but the root are different vertices, and their prices may move by d
pub record MayShift (qs ms : List ℕ) (tree : List Node) (d : ℕ) : Type 0 where
  pub some : 0 < length tree
  pub count : length ms ≡ length qs
  pub vertices : (i : ℕ) → i < length tree → vertex_at tree i < length qs
  pub mates : (i : ℕ) → i < length tree → mate_at ms tree i < length qs
  pub vertices_differ : (i j : ℕ) → 0 < i → i < j → j < length tree → vertex_at tree i ≢ vertex_at tree j
  pub mates_differ : (i j : ℕ) → i < j → j < length tree → mate_at ms tree i ≢ mate_at ms tree j
  pub apart : (i j : ℕ) → i < length tree → 0 < j → j < length tree → mate_at ms tree i ≢ vertex_at tree j
  pub rise : (i : ℕ) → i < length tree → get_or qs (mate_at ms tree i) 0 + d ≤ miss_cost
  pub fall : (i : ℕ) → 0 < i → i < length tree → d ≤ get_or qs (vertex_at tree i) 0

-- the mates of all nodes rise by d, the vertices of all but the root fall by d, and the others stay
pub record AreShifted (qs new ms : List ℕ) (tree : List Node) (d : ℕ) : Type 0 where
  pub count : length new ≡ length qs
  pub risen : (i : ℕ) → i < length tree → get_or new (mate_at ms tree i) 0 ≡ get_or qs (mate_at ms tree i) 0 + d
  pub fallen : (i : ℕ) → 0 < i → i < length tree → get_or new (vertex_at tree i) 0 + d ≡ get_or qs (vertex_at tree i) 0
  pub others : (v : ℕ) → ((i : ℕ) → i < length tree → mate_at ms tree i ≢ v) → ((i : ℕ) → 0 < i → i < length tree → vertex_at tree i ≢ v) → get_or new v 0 ≡ get_or qs v 0
