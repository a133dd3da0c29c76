-- Comparisons one after the other, from the left and from the right.
use Rattle.std.proofs.Common.{◌≡◌, ◌∙◌, refl, List, [], ◌∷◌}
use Rattle.std.specs.Ordering.{ordering_then}
use Rattle.std.specs.declared.cmp.Ordering.{Ordering}
use Rattle.std.specs.declared.cmp.Ordering.TheVariants.{Less, Equal, Greater}

abbrev pub lefts : Ordering → List Ordering → Ordering
lefts p [] = p
lefts p (q ∷ qs) = lefts (ordering_then p q) qs

abbrev pub rights : Ordering → List Ordering → Ordering
rights p [] = p
rights p (q ∷ qs) = ordering_then p (rights q qs)

then_rights : (p q : Ordering) (qs : List Ordering) → rights (ordering_then p q) qs ≡ ordering_then p (rights q qs)
then_rights Less q [] = refl
then_rights Equal q [] = refl
then_rights Greater q [] = refl
then_rights Less q (r ∷ qs) = refl
then_rights Equal q (r ∷ qs) = refl
then_rights Greater q (r ∷ qs) = refl

pub lefts_rights : (p : Ordering) (qs : List Ordering) → lefts p qs ≡ rights p qs
lefts_rights p [] = refl
lefts_rights p (q ∷ qs) = lefts_rights (ordering_then p q) qs ∙ then_rights p q qs
