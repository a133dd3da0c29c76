-- Edges that rise, by recursion and by index.
use Rattle.std.proofs.Common.{◌≡◌, refl, ℕ, zero, suc, ◌+◌, ◌<◌, List, [], ◌∷◌, ◌++◌, length, get_or, arith}
use Rattle.std.specs.Prelude.{Contains, All}
use Rattle.std.specs.List.{AllByRecursion}
use Rattle.std.proofs.lemmas.List.Elements.{Contains-get_or}
use Rattle.assignment_dual.specs.Problems.{Edge, EdgeBefore, edge_at}
use Rattle.slot_step.proofs.Interleavings.{contains_first, contains_later, all_append}

abbrev pub Rising : List Edge → Type 0
Rising [] = Unit {0}
Rising (e ∷ es) = AllByRecursion (EdgeBefore e) es × Rising es

all_get : (Q : Edge → Type 0) (es : List Edge) → AllByRecursion Q es → (i : ℕ) → i < length es → Q (edge_at es i)
all_get Q [] h i lt = absurd (omega (arith, lt))
all_get Q (e ∷ es) h zero lt = h.0
all_get Q (e ∷ es) h (suc i) lt = all_get Q es h.1 i (omega (arith, lt))

pub by_index : (es : List Edge) → Rising es → (i j : ℕ) → i < j → j < length es → EdgeBefore (edge_at es i) (edge_at es j)
by_index [] h i j lt l = absurd (omega (arith, l))
by_index (e ∷ es) h i zero lt l = absurd (omega (arith, lt))
by_index (e ∷ es) h zero (suc j) lt l = all_get (EdgeBefore e) es h.0 j (omega (arith, l))
by_index (e ∷ es) h (suc i) (suc j) lt l = by_index es h.1 i j (omega (arith, lt)) (omega (arith, l))

pub rising_append : (es fs : List Edge) → Rising es → Rising fs → ((e : Edge) → Contains es e → AllByRecursion (EdgeBefore e) fs) → Rising (es ++ fs)
rising_append [] fs h g c = g
rising_append (e ∷ es) fs h g c = (all_append (EdgeBefore e) es fs h.0 (c e (contains_first e e es refl)), rising_append es fs h.1 g (λ d k. c d (contains_later e d es k)))

pub all_by_index : {X : Type 0} (Q : X → Type 0) (xs : List X) → ((x : X) → Contains xs x → Q x) → All Q xs
all_by_index Q xs f i d lt = f (get_or xs i d) (Contains-get_or xs i d lt)

pub from_none : (n : ℕ) → 0 + n ≡ n
from_none n = omega arith
