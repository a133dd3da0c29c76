-- Lists in the order of a number of each element.
use Rattle.std.specs.Prelude.{ℕ, nat_lt, if◌then◌else◌, List, [], ◌∷◌}

-- put in its place, before those of the same number
abbrev pub put : {X : Type 0} → (X → ℕ) → X → List X → List X
put number x [] = x ∷ []
put number x (y ∷ ys) = if nat_lt (number y) (number x) then y ∷ put number x ys else x ∷ y ∷ ys

-- the list in rising number; those of one number stay in their order
abbrev pub in_rising_number : {X : Type 0} → (X → ℕ) → List X → List X
in_rising_number number [] = []
in_rising_number number (x ∷ xs) = put number x (in_rising_number number xs)
