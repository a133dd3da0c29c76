-- The least pairing, entry by entry.
use Rattle.std.specs.Prelude.{◌≡◌, ◌<◌, ◌≤◌, ℕ, ◌+◌, List, [], ◌∷◌, Option, Some, None, if◌then◌else◌, ◌==◌}
use Rattle.assignment_dual.specs.Pairings.{Row, Gates, IsPairing, entry_cost, cost, EntryBefore}

-- the row where the track of x is taken
abbrev pub without : Option ℕ → Row → Row
without None row = row
without (Some s) row = λ t. if t == s then None else row t

abbrev pub rest : Option ℕ → List Row → List Row
rest x [] = []
rest x (row ∷ rows) = without x row ∷ rest x rows

-- with x the least cost is reached, and with no entry before it
pub record IsFirstChoice (row : Row) (rows : List Row) (x : Option ℕ) (n : ℕ) : Type 0 where
  pub gates : Gates row x
  pub least : (ys : List (Option ℕ)) → IsPairing (row ∷ rows) ys → n ≤ cost (row ∷ rows) ys
  pub reached : (ys : List (Option ℕ)) → IsPairing (rest x rows) ys → ((zs : List (Option ℕ)) → IsPairing (rest x rows) zs → cost (rest x rows) ys ≤ cost (rest x rows) zs) → entry_cost row x + cost (rest x rows) ys ≡ n
  pub earlier : (y : Option ℕ) → Gates row y → EntryBefore y x → (ys : List (Option ℕ)) → IsPairing (rest y rows) ys → n < entry_cost row y + cost (rest y rows) ys
