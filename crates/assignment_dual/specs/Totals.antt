-- The sum of prices.
use Rattle.std.specs.Prelude.{◌≡◌, ◌≤◌, ◌<◌, ◌^◌, ℕ, List, length, get_or, sum}
use Rattle.trk_base.specs.Limits.{miss_cost}

-- the total of prices that are small, and few enough that it can be counted
pub record IsTotal (prices : List ℕ) (total : ℕ) : Type 0 where
  pub equal : total ≡ sum prices
  pub few : length prices < 2 ^ 40
  pub small : (v : ℕ) → get_or prices v 0 ≤ miss_cost
