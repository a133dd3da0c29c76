-- The least pairing as a function: plot by plot, the first entry with which the least cost is reached.
use Rattle.std.specs.Prelude.{◌≡◌, ◌<◌, ℕ, zero, suc, ◌+◌, List, [], ◌∷◌, length, Option, Some, None, IsSome, ◌&&◌, nat_le, if◌then◌else◌}
use Rattle.std.specs.Option.{is_some}
use Rattle.assignment_dual.specs.Pairings.{Row, entry_cost, cost}
use Rattle.assignment_dual.specs.First.{rest}
use Rattle.assignment_dual.specs.Rests.{row_at}

-- the first that costs least among none and the `count` tracks from `from` on that gate
unfoldable pub first_best : (Option ℕ → ℕ) → Row → ℕ → ℕ → Option ℕ
first_best worth row from zero = None
first_best worth row from (suc count) = if is_some (row from) && nat_le (worth (Some from)) (worth (first_best worth row (suc from) count)) then Some from else first_best worth row (suc from) count

-- of the first `plots` rows, with tracks below `tracks`
unfoldable pub least_of : ℕ → ℕ → List Row → List (Option ℕ)
least_of tracks zero rows = []
least_of tracks (suc plots) [] = []
least_of tracks (suc plots) (row ∷ rows) =
    let x = first_best (λ y. entry_cost row y + cost (rest y rows) (least_of tracks plots (rest y rows))) row 0 tracks in
    x ∷ least_of tracks plots (rest x rows)

-- the least pairing of a batch whose tracks have indices below `tracks`
abbrev pub least_pairing : ℕ → List Row → List (Option ℕ)
least_pairing tracks rows = least_of tracks (length rows) rows

-- only tracks below this index gate
abbrev pub GateBelow : ℕ → List Row → Type 0
GateBelow tracks rows = (plot track : ℕ) → plot < length rows → IsSome (row_at rows plot track) → track < tracks

-- the rows of two batches agree: each track costs each plot the same in both, or gates it in neither
pub record AreAlike (rows others : List Row) : Type 0 where
  pub count : length others ≡ length rows
  pub each : (plot track : ℕ) → plot < length rows → row_at others plot track ≡ row_at rows plot track
