-- What is left of a run, for the walk over two runs side by side.
use Rattle.std.specs.Prelude.{◌≡◌, ◌≤◌, ℕ, List}
use Rattle.std.specs.declared.cmp.Ordering.{Ordering}
use Rattle.late_window.specs.Folding.{Rises, at_slot, before, states}

-- t, ys and left are what is left from slot n on of the run of s over xs: the state before that slot, the
-- items from it on, and the states after them
pub record IsLeftOf {S I K : Type 0} (next : S → ℕ → List I → S) (slot : I → ℕ) (cmp : I → I → Ordering) (key : I → K) (s : S) (xs : List I) (n : ℕ) (t : S) (ys : List I) (left : List S) : Type 0 where
  pub same : (m : ℕ) → n ≤ m → before next slot t ys m ≡ before next slot s xs m
  pub items : (m : ℕ) → n ≤ m → at_slot slot m ys ≡ at_slot slot m xs
  pub run : left ≡ states next slot t ys
  pub rising : Rises cmp key ys
