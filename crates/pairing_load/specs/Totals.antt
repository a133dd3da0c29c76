-- The least costs of the problems of a load.
use Rattle.std.specs.Prelude.{◌≡◌, ◌<◌, ℕ, List, Option, length, get_or, sum, ◌++◌, codes}
use Rattle.std.specs.Fmt.{decimal}
use Rattle.assignment_dual.specs.Pairings.{IsLeast, cost}
use Rattle.assignment_dual.specs.Problems.{Problem, rows_of}
use Rattle.pairing_load.specs.declared.problems.EdgeCosts.{EdgeCosts}
use Rattle.pairing_load.specs.Problems.{problem}

-- what the least of all pairings costs
pub record IsLeastCost (p : Problem) (c : ℕ) : Type 0 where
  pub pairing : List (Option ℕ)
  pub least : IsLeast (rows_of p) pairing
  pub worth : c ≡ cost (rows_of p) pairing

-- the sum of the least costs of so many problems of a seed
pub record IsCostSum (costs : EdgeCosts) (size seed count total : ℕ) : Type 0 where
  pub each : List ℕ
  pub count_is : length each ≡ count
  pub least : (k : ℕ) → k < count → IsLeastCost (problem costs size seed k) (get_or each k 0)
  pub total_is : total ≡ sum each

-- the line that tells it
abbrev pub total_line : ℕ → ℕ → List ℕ
total_line count total = codes "problems " ++ (decimal count ++ (codes " cost " ++ (decimal total ++ codes "\n")))
