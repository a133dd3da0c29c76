-- The pairings of a batch of plots with tracks, their cost and their order.
use Rattle.trk_base.specs.Limits.{miss_cost}
use Rattle.std.specs.Prelude.{◌≡◌, ◌≢◌, ◌<◌, ◌⊎◌, ℕ, ◌+◌, List, [], ◌∷◌, Bool, true, false, Option, Some, None, IsSome}

-- what each track costs that gates a plot
abbrev pub Row : Type 0
Row = ℕ → Option ℕ

-- the cost of a gate, 0 where there is none
abbrev pub paired_cost : Option ℕ → ℕ
paired_cost None = 0
paired_cost (Some c) = c

abbrev pub entry_cost : Row → Option ℕ → ℕ
entry_cost row None = miss_cost
entry_cost row (Some t) = paired_cost (row t)

-- the track named, if any, gates the plot
abbrev pub Gates : Row → Option ℕ → Type 0
Gates row None = Unit {0}
Gates row (Some t) = IsSome (row t)

-- one entry for each plot, whose track gates it
abbrev pub AllGate : List Row → List (Option ℕ) → Type 0
AllGate [] [] = Unit {0}
AllGate [] (x ∷ xs) = ⊥
AllGate (row ∷ rows) [] = ⊥
AllGate (row ∷ rows) (x ∷ xs) = Gates row x × AllGate rows xs

-- no entry names this track
abbrev pub Misses : ℕ → List (Option ℕ) → Type 0
Misses t [] = Unit {0}
Misses t (x ∷ xs) = (x ≢ Some t) × Misses t xs

-- no track stands twice
abbrev pub Once : List (Option ℕ) → Type 0
Once [] = Unit {0}
Once (None ∷ xs) = Once xs
Once (Some t ∷ xs) = Misses t xs × Once xs

pub record IsPairing (rows : List Row) (xs : List (Option ℕ)) : Type 0 where
  pub gates : AllGate rows xs
  pub once : Once xs

abbrev pub cost : List Row → List (Option ℕ) → ℕ
cost [] xs = 0
cost (row ∷ rows) [] = 0
cost (row ∷ rows) (x ∷ xs) = entry_cost row x + cost rows xs

-- a lower place before a higher one, every place before none
abbrev pub EntryBefore : Option ℕ → Option ℕ → Type 0
EntryBefore None y = ⊥
EntryBefore (Some s) None = Unit {0}
EntryBefore (Some s) (Some t) = s < t

-- the same list, or one that comes before by its first entry that differs
abbrev pub NotAfter : List (Option ℕ) → List (Option ℕ) → Type 0
NotAfter [] ys = Unit {0}
NotAfter (x ∷ xs) [] = ⊥
NotAfter (x ∷ xs) (y ∷ ys) = EntryBefore x y ⊎ ((x ≡ y) × NotAfter xs ys)

-- by cost, then by the list
abbrev pub ComesFirst : List Row → List (Option ℕ) → List (Option ℕ) → Type 0
ComesFirst rows xs ys = (cost rows xs < cost rows ys) ⊎ ((cost rows xs ≡ cost rows ys) × NotAfter xs ys)

-- the first one of all pairings
pub record IsLeast (rows : List Row) (xs : List (Option ℕ)) : Type 0 where
  pub pairing : IsPairing rows xs
  pub first : (ys : List (Option ℕ)) → IsPairing rows ys → ComesFirst rows xs ys

-- Two sets of plots: those at true and those at false.
abbrev pub part : {X : Type 0} → Bool → List Bool → List X → List X
part b [] xs = []
part b (s ∷ sides) [] = []
part true (true ∷ sides) (x ∷ xs) = x ∷ part true sides xs
part true (false ∷ sides) (x ∷ xs) = part true sides xs
part false (true ∷ sides) (x ∷ xs) = part false sides xs
part false (false ∷ sides) (x ∷ xs) = x ∷ part false sides xs

-- a track gates no plot of these rows
abbrev pub GatesNone : ℕ → List Row → Type 0
GatesNone t [] = Unit {0}
GatesNone t (row ∷ rows) = (row t ≡ None) × GatesNone t rows

-- no track gates plots of both sets
abbrev pub Apart : List Row → List Row → Type 0
Apart rows others = (t : ℕ) → GatesNone t rows ⊎ GatesNone t others
