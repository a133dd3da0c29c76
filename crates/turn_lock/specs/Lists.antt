-- Words on lists of events and of numbers.
use Rattle.std.specs.Prelude.{◌≡◌, ℕ, zero, suc, ◌+◌, ◌==◌, Bool, true, false, List, [], ◌∷◌, ◌++◌, if◌then◌else◌}

-- the longer list begins with the first
abbrev pub Begins : {E : Type 0} → List E → List E → Type 0
Begins {E} first longer = (rest : List E) × (longer ≡ first ++ rest)

-- whether the number stands in the list
abbrev pub is_member : ℕ → List ℕ → Bool
is_member n [] = false
is_member n (x ∷ xs) = if n == x then true else is_member n xs

-- how often it stands there
abbrev pub count_of : ℕ → List ℕ → ℕ
count_of n [] = 0
count_of n (x ∷ xs) = (if n == x then 1 else 0) + count_of n xs

-- the numbers below n, the highest first
abbrev pub below : ℕ → List ℕ
below zero = []
below (suc n) = n ∷ below n
