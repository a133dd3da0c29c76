-- What stands at the indices of a token stays there.
use Rattle.std.proofs.Common.{◌≡◌, ◌⊎◌, sym, subst, ⊎_elim, ℕ, zero, suc, Bool, true, true≢false, List, [], ◌∷◌, ◌++◌, length}
use Rattle.turn_lock.specs.Lists.{Begins}
use Rattle.turn_lock.proofs.Lists.{is_member-append, is_member_one}
use Rattle.admission_log.specs.declared.events.Event.{Event}
use Rattle.station.specs.Added.{stands_at, AllAt}

there_longer : (such : Event → Bool) (xs ys : List Event) (p : ℕ) → stands_at such p xs ≡ true → stands_at such p (xs ++ ys) ≡ true
there_longer such [] ys p h = absurd (true≢false (sym h))
there_longer such (x ∷ xs) ys zero h = h
there_longer such (x ∷ xs) ys (suc p) h = there_longer such xs ys p h

there_last : (such : Event → Bool) (xs : List Event) (y : Event) → such y ≡ true → stands_at such (length xs) (xs ++ y ∷ []) ≡ true
there_last such [] y h = h
there_last such (x ∷ xs) y h = there_last such xs y h

pub all_seen : (such : Event → Bool) (mine : List ℕ) (seen found : List Event) → AllAt such mine seen → Begins seen found → AllAt such mine found
all_seen such mine seen found all b = λ p h. subst (λ (xs : List Event). stands_at such p xs ≡ true) (sym b.1) (there_longer such seen b.0 p (all p h))

pub all_added : (such : Event → Bool) (mine : List ℕ) (seen found : List Event) (e : Event) → AllAt such mine seen → Begins seen found → such e ≡ true → AllAt such (mine ++ length found ∷ []) (found ++ e ∷ [])
all_added such mine seen found e all b new = λ p h. ⊎_elim (λ old. there_longer such found (e ∷ []) p (all_seen such mine seen found all b p old))
    (λ last. subst (λ (n : ℕ). stands_at such n (found ++ e ∷ []) ≡ true) (sym (is_member_one p (length found) last)) (there_last such found e new))
    (is_member-append p mine (length found ∷ []) h)
