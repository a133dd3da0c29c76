-- That no track is named twice, said by places and by recursion.
use Rattle.std.proofs.Common.{◌≡◌, ◌≢◌, ℕ, suc, zero, ◌<◌, ◌≤◌, List, [], ◌∷◌, Option, Some, None, length, arith, refl, sym, ◌∙◌, subst}
use Rattle.std.specs.List.{All}
use Rattle.std.specs.Option.{IfSome}
use Rattle.assignment_dual.specs.Pairings.{Misses, Once}
use Rattle.price_form.specs.Checks.{entry_at, NamesTwice, NamesOnce}

misses_from : (t : ℕ) (xs : List (Option ℕ)) → ((j : ℕ) → j < length xs → entry_at xs j ≢ Some t) → Misses t xs
misses_from t [] h = tt
misses_from t (x ∷ xs) h = (h zero (omega arith), misses_from t xs (λ j lt. h (suc j) (omega (arith, lt))))

misses_at : (t : ℕ) (xs : List (Option ℕ)) → Misses t xs → (j : ℕ) → j < length xs → entry_at xs j ≢ Some t
misses_at t [] h j lt = absurd (omega (arith, lt))
misses_at t (x ∷ xs) h zero lt = h.0
misses_at t (x ∷ xs) h (suc j) lt = misses_at t xs h.1 j (omega (arith, lt))

pub once_from : (xs : List (Option ℕ)) → ((i j t : ℕ) → i < j → j < length xs → entry_at xs i ≡ Some t → entry_at xs j ≡ Some t → ⊥) → Once xs
once_from [] h = tt
once_from (None ∷ xs) h = once_from xs (λ i j t lt in'. h (suc i) (suc j) t (omega (arith, lt)) (omega (arith, in')))
once_from (Some t ∷ xs) h = (misses_from t xs (λ j lt e. h zero (suc j) t (omega arith) (omega (arith, lt)) refl e), once_from xs (λ i j t' lt in'. h (suc i) (suc j) t' (omega (arith, lt)) (omega (arith, in'))))

once_at : (xs : List (Option ℕ)) → Once xs → (i j t : ℕ) → i < j → j < length xs → entry_at xs i ≡ Some t → entry_at xs j ≡ Some t → ⊥
once_at xs h i zero t lt in' e f = omega (arith, lt)
once_at [] h i (suc j) t lt in' e f = omega (arith, in')
once_at (None ∷ xs) h zero (suc j) t lt in' e f = cc
once_at (None ∷ xs) h (suc i) (suc j) t lt in' e f = once_at xs h i j t (omega (arith, lt)) (omega (arith, in')) e f
once_at (Some s ∷ xs) h zero (suc j) t lt in' e f = misses_at s xs h.0 j (omega (arith, in')) (f ∙ sym e)
once_at (Some s ∷ xs) h (suc i) (suc j) t lt in' e f = once_at xs h.1 i j t (omega (arith, lt)) (omega (arith, in')) e f

pub not_once : (xs : List (Option ℕ)) → NamesTwice xs → Once xs → ⊥
not_once xs h o = once_at xs o h.first h.second h.track h.before h.inside h.one h.other

named_at : (xs : List (Option ℕ)) (tracks : ℕ) → All (λ x. IfSome x (λ t. t < tracks)) xs → (i t : ℕ) → i < length xs → entry_at xs i ≡ Some t → t < tracks
named_at xs tracks all i t lt e = let P : Option ℕ → Type 0 = λ x. IfSome x (λ s. s < tracks) in subst P e (all i None lt)

-- the stretches cover all tracks
pub all_stretches : (xs : List (Option ℕ)) (tracks n : ℕ) → All (λ x. IfSome x (λ t. t < tracks)) xs → tracks ≤ n → NamesOnce xs (length xs) 0 n → Once xs
all_stretches xs tracks n all le h =
    once_from xs (λ i j t lt in' e f. h i j t lt in' (omega arith) (omega (arith, named_at xs tracks all i t (omega (arith, lt, in')) e, le)) e f)
