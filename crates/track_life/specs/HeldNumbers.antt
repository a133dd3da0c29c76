-- Track numbers that are held, as leaps over them: from each number's place one leaps to a place before which all are held, and where one
-- doesn't leap the number is free. It is the disjoint sets of a line (Tarjan and van Leeuwen, "Worst-case analysis of set union algorithms").
use Rattle.std.specs.Prelude.{◌≡◌, ℕ, ◌+◌, ◌<◌, ◌≤◌, Bool, true, false, List, length, slice_index}

-- a leap for each number from 0 to 65,535, and for the place after them; none leaves the line
pub record AreLeaps (leaps : List ℕ) : Type 0 where
  pub count : length leaps ≡ 65537
  pub inside : (n : ℕ) → n ≤ 65536 → n + slice_index leaps n ≤ 65536

-- the leaps go over numbers that are held, and over each of them
pub record LeapOver (held : ℕ → Bool) (leaps : List ℕ) : Type 0 where
  pub over : (n m : ℕ) → n ≤ m → m < n + slice_index leaps n → held m ≡ true
  pub stands : (n : ℕ) → n ≤ 65535 → slice_index leaps n ≡ 0 → held n ≡ false

-- the first number from one on that isn't held, or 65,536
pub record IsNextFree (held : ℕ → Bool) (from n : ℕ) : Type 0 where
  pub above : from ≤ n
  pub below : n ≤ 65536
  pub over : (m : ℕ) → from ≤ m → m < n → held m ≡ true
  pub free : n ≤ 65535 → held n ≡ false

-- the first that isn't held from one on, or else from 1 on, or else 65,536
pub record IsFirstFree (held : ℕ → Bool) (from n : ℕ) : Type 0 where
  pub first : ℕ
  pub next : IsNextFree held from first
  pub here : first ≤ 65535 → n ≡ first
  pub again : 65535 < first → IsNextFree held 1 n
