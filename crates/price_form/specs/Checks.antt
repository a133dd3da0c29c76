-- What the parts of a check find out.
use Rattle.std.specs.Prelude.{◌≡◌, ◌<◌, ◌≤◌, ◌+◌, ◌-◌, ℕ, Bool, true, false, List, Option, Some, None, length, map, slice_index_or, ℤ, ◌+ℤ◌, ◌≤ℤ◌, pos, All}
use Rattle.std.specs.List.{range_with_len}
use Rattle.trk_base.specs.Limits.{miss_cost}
use Rattle.assignment_dual.specs.Pairings.{Row}
use Rattle.assignment_dual.specs.Problems.{Edge, EdgeBefore, edge_at, row_of, price_at}

abbrev pub Rises : List Edge → Type 0
Rises edges = (i j : ℕ) → i < j → j < length edges → EdgeBefore (edge_at edges i) (edge_at edges j)

-- the rows of the first n plots
abbrev pub first_rows : List Edge → ℕ → List Row
first_rows edges n = map (row_of edges) (range_with_len 0 n)

abbrev pub entry_at : List (Option ℕ) → ℕ → Option ℕ
entry_at xs i = slice_index_or xs i None

-- two entries name one track
pub record NamesTwice (xs : List (Option ℕ)) : Type 0 where
  pub first : ℕ
  pub second : ℕ
  pub track : ℕ
  pub before : first < second
  pub inside : second < length xs
  pub one : entry_at xs first ≡ Some track
  pub other : entry_at xs second ≡ Some track

-- of the first n entries no two name one track from low up to high
abbrev pub NamesOnce : List (Option ℕ) → ℕ → ℕ → ℕ → Type 0
NamesOnce xs n low high = (i j t : ℕ) → i < j → j < n → low ≤ t → t < high → entry_at xs i ≡ Some t → entry_at xs j ≡ Some t → ⊥

-- no edge costs less than its prices
abbrev pub EdgesHold : List ℤ → List ℤ → List Edge → Type 0
EdgesHold us vs edges = All (λ e. (price_at us e.0 +ℤ price_at vs e.1) ≤ℤ pos e.2) edges

-- prices that no plot alone, no track and no edge undercuts
pub record AreFeasible (edges : List Edge) (us vs : List ℤ) : Type 0 where
  pub below_miss : All (λ u. u ≤ℤ pos miss_cost) us
  pub below_zero : All (λ v. v ≤ℤ pos 0) vs
  pub below_cost : EdgesHold us vs edges

-- a mark stands for each track of the stretch from low on that one of the first n entries names, and for no other
pub record AreMarked (xs : List (Option ℕ)) (n low : ℕ) (marks : List Bool) : Type 0 where
  pub named : (i t : ℕ) → i < n → low ≤ t → t < low + length marks → entry_at xs i ≡ Some t → slice_index_or marks (t - low) false ≡ true
  pub marked : (index : ℕ) → index < length marks → slice_index_or marks index false ≡ true → (i : ℕ) × (i < n) × (entry_at xs i ≡ Some (low + index))
