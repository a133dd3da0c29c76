-- What came of each job.
use Rattle.std.specs.Prelude.{◌≡◌, List, [], ◌∷◌, map, Result, Ok, IfOk}

-- each that is there is its job's, in order
abbrev pub AreResultsOf : {X E : Type 0} → List X → List (Result X E) → Type 0
AreResultsOf [] [] = Unit {0}
AreResultsOf [] (r ∷ rs) = ⊥
AreResultsOf (j ∷ js) [] = ⊥
AreResultsOf (j ∷ js) (r ∷ rs) = IfOk r (λ d. d ≡ j) × AreResultsOf js rs

-- each was there, with these values
abbrev pub AreAll : {X E : Type 0} → List (Result X E) → List X → Type 0
AreAll rs xs = rs ≡ map Ok xs
