-- Laws of octets that are told: what was appended to them, and what was consumed.
use Rattle.std.proofs.Common.{◌≡◌, ◌∙◌, ap, sym, ℕ, List, [], ◌++◌, append_assoc, append-nil, refl}
use Rattle.std.specs.Prelude.{Option, Some, None}
use Rattle.std.specs.Io.KnownBytes.{Appends, Consumes}
use Rattle.io_traits.specs.Host.{IsEmpty}

pub Appends_nothing : (a : Option (List ℕ)) → Appends a a []
Appends_nothing None = tt
Appends_nothing (Some xs) = sym (append-nil xs)

pub Appends_trans : (a b c : Option (List ℕ)) (s t : List ℕ) → Appends a b s → Appends b c t → Appends a c (s ++ t)
Appends_trans None b c s t h k = tt
Appends_trans (Some xs) None c s t h k = absurd h
Appends_trans (Some xs) (Some ys) None s t h k = absurd k
Appends_trans (Some xs) (Some ys) (Some zs) s t h k = k ∙ ap (λ z. z ++ t) h ∙ append_assoc xs s t

-- what was appended to nothing is what is held
pub Appends_to_empty : (a b : Option (List ℕ)) (s : List ℕ) → a ≡ Some [] → Appends a b s → b ≡ Some s
Appends_to_empty None b s e h = cc
Appends_to_empty (Some xs) None s e h = absurd h
Appends_to_empty (Some xs) (Some ys) s e h = let none : xs ≡ [] = cc in ap Some (h ∙ ap (λ z. z ++ s) none)

pub Consumes_nothing : (a : Option (List ℕ)) → Consumes a a []
Consumes_nothing None = tt
Consumes_nothing (Some xs) = refl

pub Consumes_trans : (a b c : Option (List ℕ)) (s t : List ℕ) → Consumes a b s → Consumes b c t → Consumes a c (s ++ t)
Consumes_trans None b c s t h k = tt
Consumes_trans (Some xs) None c s t h k = absurd h
Consumes_trans (Some xs) (Some ys) None s t h k = absurd k
Consumes_trans (Some xs) (Some ys) (Some zs) s t h k = h ∙ ap (λ z. s ++ z) k ∙ sym (append_assoc s t zs)

-- what was consumed to the end is all that was left
pub Consumes_all : (a b : Option (List ℕ)) (s xs : List ℕ) → Consumes a b s → IsEmpty b → a ≡ Some xs → s ≡ xs
Consumes_all None b s xs h e t = cc
Consumes_all (Some ys) None s xs h e t = absurd h
Consumes_all (Some ys) (Some zs) s xs h e t = let same : ys ≡ xs = cc in sym (append-nil s) ∙ ap (λ z. s ++ z) (sym e) ∙ sym h ∙ same
