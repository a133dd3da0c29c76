-- The tree of tight arcs in which a place for its root is searched.
use Rattle.std.specs.Prelude.{◌≡◌, ◌≢◌, ◌≤◌, ◌<◌, ◌⊎◌, ℕ, ◌+◌, List, Bool, true, false, length, get_or, count_by, not}
use Rattle.assignment_dual.specs.declared.graph.Graph.{Graph}
use Rattle.assignment_dual.specs.declared.search.Node.{Node}
use Rattle.trk_base.specs.Limits.{miss_cost}
use Rattle.assignment_dual.specs.Vertices.{Across, HasArc, to_of, cost_at, Tight}

-- only vertices on the other side than x are seen
pub record SeenAcross (plots : ℕ) (seen : List Bool) (x : ℕ) : Type 0 where
  pub across : (y : ℕ) → get_or seen y false ≡ true → Across plots x y

abbrev pub unseen : List Bool → ℕ
unseen seen = count_by not seen

-- each tight arc of x leads to one that is seen, and x may not be alone
pub record IsSwept (g : Graph) (qs : List ℕ) (seen : List Bool) (x : ℕ) : Type 0 where
  pub below : get_or qs x 0 ≢ miss_cost
  pub arcs : (k : ℕ) → HasArc g x k → get_or qs x 0 + get_or qs (to_of g k) 0 ≡ cost_at g k + miss_cost → get_or seen (to_of g k) false ≡ true

abbrev pub no_node : Node
no_node = record { vertex = 0; from = 0 }

abbrev pub vertex_at : List Node → ℕ → ℕ
vertex_at tree i = (get_or tree i no_node).vertex

abbrev pub from_at : List Node → ℕ → ℕ
from_at tree i = (get_or tree i no_node).from

-- the mate of a node's vertex
abbrev pub mate_at : List ℕ → List Node → ℕ → ℕ
mate_at ms tree i = get_or ms (vertex_at tree i) 0

-- Node 0 has the root x, the others have the vertices seen, each once. To each a tight arc leads
-- from the mate of an earlier node.
pub record IsSearchTree (g : Graph) (n : ℕ) (qs ms : List ℕ) (seen : List Bool) (tree : List Node) (x : ℕ) : Type 0 where
  pub some : 0 < length tree
  pub root : vertex_at tree 0 ≡ x
  pub within : (i : ℕ) → i < length tree → vertex_at tree i < n
  pub earlier : (i : ℕ) → 0 < i → i < length tree → from_at tree i < i
  pub tight : (i : ℕ) → 0 < i → i < length tree → Tight g qs (mate_at ms tree (from_at tree i)) (vertex_at tree i)
  pub marked : (i : ℕ) → 0 < i → i < length tree → get_or seen (vertex_at tree i) false ≡ true
  pub distinct : (i j : ℕ) → 0 < i → i < j → j < length tree → vertex_at tree i ≢ vertex_at tree j
  pub known : (y : ℕ) → get_or seen y false ≡ true → (i : ℕ) × (0 < i) × (i < length tree) × (vertex_at tree i ≡ y)
  pub across : SeenAcross g.plots seen x

-- the vertices of the nodes before this one have mates
pub record ArePaired (ms : List ℕ) (tree : List Node) (upto : ℕ) : Type 0 where
  pub paired : (i : ℕ) → 0 < i → i < upto → mate_at ms tree i ≢ vertex_at tree i

-- at this node the mate, or the vertex itself, pays for being alone
pub record IsEnd (qs ms : List ℕ) (tree : List Node) (e : ℕ) : Type 0 where
  pub inside : e < length tree
  pub before : ArePaired ms tree e
  pub pays : get_or qs (mate_at ms tree e) 0 ≡ miss_cost

-- the tree grows no more
pub record IsExhausted (g : Graph) (qs ms : List ℕ) (seen : List Bool) (tree : List Node) : Type 0 where
  pub paired : ArePaired ms tree (length tree)
  pub swept : (i : ℕ) → i < length tree → IsSwept g qs seen (mate_at ms tree i)

-- the nodes that were there are there
pub record IsExtended (tree new : List Node) : Type 0 where
  pub longer : length tree ≤ length new
  pub same : (i : ℕ) → i < length tree → get_or new i no_node ≡ get_or tree i no_node

-- x has been placed: whoever is alone now pays for it or was so before, and who stood out does still
pub record IsMatchedAfter (n : ℕ) (qs ms new : List ℕ) (x : ℕ) : Type 0 where
  pub alone : (v : ℕ) → v < n → get_or new v 0 ≡ v → (get_or qs v 0 ≡ miss_cost) ⊎ ((v ≢ x) × (get_or ms v 0 ≡ v))
  pub out : (v : ℕ) → v < n → v ≢ x → get_or ms v 0 ≡ v → get_or qs v 0 ≢ miss_cost → get_or new v 0 ≡ v

-- x and y are mates, and y's mate z is alone
pub record AreRematched (ms new : List ℕ) (x y z : ℕ) : Type 0 where
  pub count : length new ≡ length ms
  pub x_is : get_or new x 0 ≡ y
  pub y_is : get_or new y 0 ≡ x
  pub z_is : z ≢ y → get_or new z 0 ≡ z
  pub others : (v : ℕ) → v ≢ x → v ≢ y → v ≢ z → get_or new v 0 ≡ get_or ms v 0

-- x and its mate y are alone
pub record AreUnmatched (ms new : List ℕ) (x y : ℕ) : Type 0 where
  pub count : length new ≡ length ms
  pub x_is : get_or new x 0 ≡ x
  pub y_is : get_or new y 0 ≡ y
  pub others : (v : ℕ) → v ≢ x → v ≢ y → get_or new v 0 ≡ get_or ms v 0

-- no vertex is seen
pub record NoneSeen (seen : List Bool) : Type 0 where
  pub each : (y : ℕ) → get_or seen y false ≡ false
