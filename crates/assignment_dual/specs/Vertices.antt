-- Plots and tracks as vertices. Each pays miss_cost by itself, or shares with a mate the cost of their arc and miss_cost.
use Rattle.std.specs.Prelude.{◌≡◌, ◌≢◌, ◌≤◌, ◌<◌, ◌⊎◌, ℕ, ◌+◌, List, Bool, true, false, length, get_or, vec_len}
use Rattle.assignment_dual.specs.declared.graph.Arc.{Arc}
use Rattle.assignment_dual.specs.declared.graph.Graph.{Graph}
use Rattle.trk_base.specs.Limits.{gate_cost, miss_cost}

-- one is a plot and the other is none
pub record Across (plots x y : ℕ) : Type 0 where
  pub sides : ((x < plots) × (plots ≤ y)) ⊎ ((plots ≤ x) × (y < plots))

-- the arc k leaves x
pub record HasArc (g : Graph) (x k : ℕ) : Type 0 where
  pub from : get_or g.first.items x 0 ≤ k
  pub upto : k < get_or g.first.items (x + 1) 0

abbrev pub no_arc : Arc
no_arc = record { from = 0; to = 0; cost = 0 }

abbrev pub to_of : Graph → ℕ → ℕ
to_of g k = (get_or g.arcs.items k no_arc).to

abbrev pub cost_at : Graph → ℕ → ℕ
cost_at g k = (get_or g.arcs.items k no_arc).cost

-- the arc j goes back to x
pub record GoesBack (g : Graph) (x k j : ℕ) : Type 0 where
  pub arc : HasArc g (to_of g k) j
  pub to : to_of g j ≡ x
  pub cost : cost_at g j ≡ cost_at g k

pub record IsArc (g : Graph) (n x k : ℕ) : Type 0 where
  pub inside : k < vec_len g.arcs
  pub to : to_of g k < n
  pub cost : cost_at g k ≤ gate_cost
  pub across : Across g.plots x (to_of g k)
  pub back : (j : ℕ) × GoesBack g x k j

pub record IsGraph (g : Graph) (n : ℕ) : Type 0 where
  pub firsts : vec_len g.first ≡ n + 1
  pub arcs : (x k : ℕ) → x < n → HasArc g x k → IsArc g n x k
  pub rising : (x j k : ℕ) → x < n → HasArc g x j → HasArc g x k → j ≤ k → to_of g j ≤ to_of g k

-- prices that no arc and no vertex alone undercuts
pub record IsDualFeasible (g : Graph) (n : ℕ) (qs : List ℕ) : Type 0 where
  pub count : length qs ≡ n
  pub alone : (x : ℕ) → get_or qs x 0 ≤ miss_cost
  pub arcs : (x k : ℕ) → x < n → HasArc g x k → get_or qs x 0 + get_or qs (to_of g k) 0 ≤ cost_at g k + miss_cost

-- an arc from x to y that the two prices pay exactly
pub record TightArc (g : Graph) (qs : List ℕ) (x y k : ℕ) : Type 0 where
  pub arc : HasArc g x k
  pub to : to_of g k ≡ y
  pub exact : get_or qs x 0 + get_or qs y 0 ≡ cost_at g k + miss_cost

abbrev pub Tight : Graph → List ℕ → ℕ → ℕ → Type 0
Tight g qs x y = (k : ℕ) × TightArc g qs x y k

-- each vertex and its mate; a vertex alone is its own
pub record AreMatched (g : Graph) (n : ℕ) (qs ms : List ℕ) : Type 0 where
  pub count : length ms ≡ n
  pub within : (x : ℕ) → x < n → get_or ms x 0 < n
  pub back : (x : ℕ) → x < n → get_or ms (get_or ms x 0) 0 ≡ x
  pub tight : (x : ℕ) → x < n → get_or ms x 0 ≢ x → Tight g qs x (get_or ms x 0)

-- each vertex but x that is alone pays for it, or stands out at 0
pub record OthersPay (n : ℕ) (qs ms : List ℕ) (x : ℕ) : Type 0 where
  pub pay : (v : ℕ) → v < n → v ≢ x → get_or ms v 0 ≡ v → (get_or qs v 0 ≡ miss_cost) ⊎ (get_or qs v 0 ≡ 0)

-- x has its place: who is alone pays for it or stood out before, and who stood out does still
pub record IsAugmented (n : ℕ) (qs ms new_q new_m : List ℕ) (x : ℕ) : Type 0 where
  pub alone : (v : ℕ) → v < n → get_or new_m v 0 ≡ v → (get_or new_q v 0 ≡ miss_cost) ⊎ ((v ≢ x) × (get_or ms v 0 ≡ v) × (get_or new_q v 0 ≡ get_or qs v 0))
  pub out : (v : ℕ) → v < n → v ≢ x → get_or ms v 0 ≡ v → get_or qs v 0 ≢ miss_cost → (get_or new_m v 0 ≡ v) × (get_or new_q v 0 ≡ get_or qs v 0)

-- everyone has a place, but those who are gone stand out
pub record IsOptimal (g : Graph) (n : ℕ) (qs ms : List ℕ) (gone : List Bool) : Type 0 where
  pub priced : IsDualFeasible g n qs
  pub mates : AreMatched g n qs ms
  pub out : (v : ℕ) → v < n → get_or gone v false ≡ true → (get_or ms v 0 ≡ v) × (get_or qs v 0 ≡ 0)
  pub full : (v : ℕ) → v < n → get_or gone v false ≡ false → get_or ms v 0 ≡ v → get_or qs v 0 ≡ miss_cost
