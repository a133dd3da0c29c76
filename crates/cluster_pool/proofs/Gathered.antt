-- Results of jobs, and the values of them all.
use Rattle.std.proofs.Common.{◌≡◌, ℕ, suc, ◌<◌, List, [], ◌∷◌, ◌++◌, length, map, get_or, Vec, Global, subst, arith, refl}
use Rattle.std.specs.Prelude.{Result, Ok, Err, IfOk}
use Rattle.cluster_pool.specs.Results.{AreResultsOf, AreAll}

module _ {X : Type 0} where
  all_there : (E : Type 0) (js ds : List X) → AreResultsOf {E = E} js (map Ok ds) → ds ≡ js
  all_there E [] [] h = refl
  all_there E [] (d ∷ ds) h = absurd h
  all_there E (j ∷ js) [] h = absurd h
  all_there E (j ∷ js) (d ∷ ds) h = λ i. h.0 i ∷ all_there E js ds h.1 i

  -- where all are there they are the jobs' own
  pub all_of_jobs : {E K : Type 0} (js : List X) (rs : List (Result X E)) (r : Result (Vec X Global) K) → AreResultsOf js rs → IfOk r (λ ds. AreAll rs ds.items) → IfOk r (λ ds. ds.items ≡ js)
  all_of_jobs {E = E} js rs (Ok ds) h e = all_there E js ds.items (subst (AreResultsOf js) e h)
  all_of_jobs js rs (Err x) h e = tt

  -- results that are right index by index
  pub by_index : {E : Type 0} (js : List X) (rs : List (Result X E)) → length rs ≡ length js → ((i : ℕ) (j : X) (r : Result X E) → i < length js → IfOk (get_or rs i r) (λ d. d ≡ get_or js i j)) → AreResultsOf js rs
  by_index [] [] len f = tt
  by_index [] (r ∷ rs) len f = absurd (omega arith)
  by_index (j ∷ js) [] len f = absurd (omega arith)
  by_index (j ∷ js) (r ∷ rs) len f = (f 0 j r (omega arith), by_index js rs (omega arith) (λ i k s l. f (suc i) k s (omega arith)))

  pub one_more : {E : Type 0} (js : List X) (rs : List (Result X E)) (j : X) (r : Result X E) → AreResultsOf js rs → IfOk r (λ d. d ≡ j) → AreResultsOf (js ++ j ∷ []) (rs ++ r ∷ [])
  one_more [] [] j r h k = (k, tt)
  one_more [] (x ∷ rs) j r h k = absurd h
  one_more (i ∷ js) [] j r h k = absurd h
  one_more (i ∷ js) (x ∷ rs) j r h k = (h.0, one_more js rs j r h.1 k)
