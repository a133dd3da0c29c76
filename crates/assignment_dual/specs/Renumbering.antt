-- The tracks of a part of a batch, by their places in a list and by their own numbers.
use Rattle.std.specs.Prelude.{◌≡◌, ◌<◌, ℕ, List, length, get_or, map, Option, option_map, IsSome}
use Rattle.assignment_dual.specs.Pairings.{Row}
use Rattle.assignment_dual.specs.Rests.{row_at}

-- the number of the track at this place
abbrev pub number_at : List ℕ → ℕ → ℕ
number_at numbers place = get_or numbers place 0

-- what a place costs in one row, its number costs in the other, and no other track gates there
pub record IsRenumbered (numbers : List ℕ) (row other : Row) : Type 0 where
  pub within : (place : ℕ) → IsSome (row place) → place < length numbers
  pub same : (place : ℕ) → place < length numbers → other (number_at numbers place) ≡ row place
  pub named : (track : ℕ) → IsSome (other track) → (place : ℕ) × (place < length numbers) × (number_at numbers place ≡ track)

pub record AreRenumbered (numbers : List ℕ) (rows others : List Row) : Type 0 where
  pub count : length others ≡ length rows
  pub each : (plot : ℕ) → plot < length rows → IsRenumbered numbers (row_at rows plot) (row_at others plot)

-- a pairing with the numbers in place of the places
abbrev pub renumbered : List ℕ → List (Option ℕ) → List (Option ℕ)
renumbered numbers xs = map (option_map (number_at numbers)) xs
