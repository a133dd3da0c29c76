-- The first pairing of two sets apart is the two first pairings put together.
use Rattle.std.proofs.Common.{◌≡◌, ◌≢◌, ◌<◌, ◌⊎◌, ℕ, ◌+◌, List, [], ◌∷◌, Bool, true, false, length, Option, Some, None, arith, refl, sym, subst, ◌∙◌, ap, IsSome}
use mathlib.Core.Logic.{inl, inr}
use Rattle.assignment_dual.specs.Pairings.{Row, Gates, AllGate, Misses, Once, IsPairing, cost, EntryBefore, NotAfter, ComesFirst, IsLeast, part, GatesNone, Apart}

abbrev pub SameLength : {X Y : Type 0} → List X → List Y → Type 0
SameLength [] [] = Unit {0}
SameLength [] (y ∷ ys) = ⊥
SameLength (x ∷ xs) [] = ⊥
SameLength (x ∷ xs) (y ∷ ys) = SameLength xs ys

part_gates : (b : Bool) (sides : List Bool) (rows : List Row) (xs : List (Option ℕ)) → AllGate rows xs → AllGate (part b sides rows) (part b sides xs)
part_gates b [] rows xs h = tt
part_gates b (s ∷ sides) [] [] h = tt
part_gates b (s ∷ sides) [] (x ∷ xs) h = absurd h
part_gates b (s ∷ sides) (row ∷ rows) [] h = absurd h
part_gates true (true ∷ sides) (row ∷ rows) (x ∷ xs) h = (h.0, part_gates true sides rows xs h.1)
part_gates true (false ∷ sides) (row ∷ rows) (x ∷ xs) h = part_gates true sides rows xs h.1
part_gates false (true ∷ sides) (row ∷ rows) (x ∷ xs) h = part_gates false sides rows xs h.1
part_gates false (false ∷ sides) (row ∷ rows) (x ∷ xs) h = (h.0, part_gates false sides rows xs h.1)

part_misses : (t : ℕ) (b : Bool) (sides : List Bool) (xs : List (Option ℕ)) → Misses t xs → Misses t (part b sides xs)
part_misses t b [] xs h = tt
part_misses t b (s ∷ sides) [] h = tt
part_misses t true (true ∷ sides) (x ∷ xs) h = (h.0, part_misses t true sides xs h.1)
part_misses t true (false ∷ sides) (x ∷ xs) h = part_misses t true sides xs h.1
part_misses t false (true ∷ sides) (x ∷ xs) h = part_misses t false sides xs h.1
part_misses t false (false ∷ sides) (x ∷ xs) h = (h.0, part_misses t false sides xs h.1)

part_once : (b : Bool) (sides : List Bool) (xs : List (Option ℕ)) → Once xs → Once (part b sides xs)
part_once b [] xs h = tt
part_once b (s ∷ sides) [] h = tt
part_once true (true ∷ sides) (None ∷ xs) h = part_once true sides xs h
part_once true (true ∷ sides) (Some t ∷ xs) h = (part_misses t true sides xs h.0, part_once true sides xs h.1)
part_once true (false ∷ sides) (None ∷ xs) h = part_once true sides xs h
part_once true (false ∷ sides) (Some t ∷ xs) h = part_once true sides xs h.1
part_once false (false ∷ sides) (None ∷ xs) h = part_once false sides xs h
part_once false (false ∷ sides) (Some t ∷ xs) h = (part_misses t false sides xs h.0, part_once false sides xs h.1)
part_once false (true ∷ sides) (None ∷ xs) h = part_once false sides xs h
part_once false (true ∷ sides) (Some t ∷ xs) h = part_once false sides xs h.1

part_pairing : (b : Bool) (sides : List Bool) (rows : List Row) (xs : List (Option ℕ)) → IsPairing rows xs → IsPairing (part b sides rows) (part b sides xs)
part_pairing b sides rows xs h = record { gates = part_gates b sides rows xs h.gates; once = part_once b sides xs h.once }

costs_add : (sides : List Bool) (rows : List Row) (xs : List (Option ℕ)) → SameLength sides rows → SameLength rows xs
    → cost rows xs ≡ cost (part true sides rows) (part true sides xs) + cost (part false sides rows) (part false sides xs)
costs_add [] [] [] l m = refl
costs_add [] [] (x ∷ xs) l m = absurd m
costs_add [] (row ∷ rows) xs l m = absurd l
costs_add (s ∷ sides) [] xs l m = absurd l
costs_add (s ∷ sides) (row ∷ rows) [] l m = absurd m
costs_add (true ∷ sides) (row ∷ rows) (x ∷ xs) l m = omega (arith, costs_add sides rows xs l m)
costs_add (false ∷ sides) (row ∷ rows) (x ∷ xs) l m = omega (arith, costs_add sides rows xs l m)

gates_length : (rows : List Row) (xs : List (Option ℕ)) → AllGate rows xs → SameLength rows xs
gates_length [] [] h = tt
gates_length [] (x ∷ xs) h = absurd h
gates_length (row ∷ rows) [] h = absurd h
gates_length (row ∷ rows) (x ∷ xs) h = gates_length rows xs h.1

join_gates : (sides : List Bool) (rows : List Row) (xs : List (Option ℕ)) → SameLength sides rows → SameLength rows xs
    → AllGate (part true sides rows) (part true sides xs) → AllGate (part false sides rows) (part false sides xs) → AllGate rows xs
join_gates [] [] [] l m a b = tt
join_gates [] [] (x ∷ xs) l m a b = absurd m
join_gates [] (row ∷ rows) xs l m a b = absurd l
join_gates (s ∷ sides) [] xs l m a b = absurd l
join_gates (s ∷ sides) (row ∷ rows) [] l m a b = absurd m
join_gates (true ∷ sides) (row ∷ rows) (x ∷ xs) l m a b = (a.0, join_gates sides rows xs l m a.1 b)
join_gates (false ∷ sides) (row ∷ rows) (x ∷ xs) l m a b = (b.0, join_gates sides rows xs l m a b.1)

join_misses : (t : ℕ) (sides : List Bool) (xs : List (Option ℕ)) → SameLength sides xs → Misses t (part true sides xs) → Misses t (part false sides xs) → Misses t xs
join_misses t [] [] l a b = tt
join_misses t [] (x ∷ xs) l a b = absurd l
join_misses t (s ∷ sides) [] l a b = tt
join_misses t (true ∷ sides) (x ∷ xs) l a b = (a.0, join_misses t sides xs l a.1 b)
join_misses t (false ∷ sides) (x ∷ xs) l a b = (b.0, join_misses t sides xs l a b.1)

gates_not : (t : ℕ) (row : Row) (x : Option ℕ) → row t ≡ None → Gates row x → x ≢ Some t
gates_not t row None n g e = cc
gates_not t row (Some s) n g e = absurd (let q : s ≡ t = cc in let k : row s ≡ None = ap row q ∙ n in let z = rw k at g in cc)

gates_none_misses : (t : ℕ) (rows : List Row) (xs : List (Option ℕ)) → GatesNone t rows → AllGate rows xs → Misses t xs
gates_none_misses t [] [] n g = tt
gates_none_misses t [] (x ∷ xs) n g = absurd g
gates_none_misses t (row ∷ rows) [] n g = absurd g
gates_none_misses t (row ∷ rows) (x ∷ xs) n g = (gates_not t row x n.0 g.0, gates_none_misses t rows xs n.1 g.1)

rest : (r : Option ℕ) (P Q : Type 0) → ((r ≡ None) × P) ⊎ Q → P ⊎ Q
rest r P Q h = elim h [ inl a ↦ inl a.1 | inr b ↦ inr b ]

rest_right : (r : Option ℕ) (P Q : Type 0) → P ⊎ ((r ≡ None) × Q) → P ⊎ Q
rest_right r P Q h = elim h [ inl a ↦ inl a | inr b ↦ inr b.1 ]

-- a track that the plot's row gates is gated by none of the other set
other : (row : Row) (t : ℕ) (P Q : Type 0) → IsSome (row t) → ((row t ≡ None) × P) ⊎ Q → Q
other row t P Q g h = elim h [ inl a ↦ absurd (let z = rw a.0 at g in cc) | inr b ↦ b ]

other_right : (row : Row) (t : ℕ) (P Q : Type 0) → IsSome (row t) → P ⊎ ((row t ≡ None) × Q) → P
other_right row t P Q g h = elim h [ inl a ↦ a | inr b ↦ absurd (let z = rw b.0 at g in cc) ]

same_lengths : (sides : List Bool) (rows : List Row) (xs : List (Option ℕ)) → SameLength sides rows → SameLength rows xs → SameLength sides xs
same_lengths [] [] [] l m = tt
same_lengths [] [] (x ∷ xs) l m = absurd m
same_lengths [] (row ∷ rows) xs l m = absurd l
same_lengths (s ∷ sides) [] xs l m = absurd l
same_lengths (s ∷ sides) (row ∷ rows) [] l m = absurd m
same_lengths (s ∷ sides) (row ∷ rows) (x ∷ xs) l m = same_lengths sides rows xs l m

join_once : (sides : List Bool) (rows : List Row) (xs : List (Option ℕ)) → SameLength sides rows → SameLength rows xs → Apart (part true sides rows) (part false sides rows)
    → AllGate (part true sides rows) (part true sides xs) → AllGate (part false sides rows) (part false sides xs)
    → Once (part true sides xs) → Once (part false sides xs) → Once xs
join_once [] [] [] l m d a b p q = tt
join_once [] [] (x ∷ xs) l m d a b p q = absurd m
join_once [] (row ∷ rows) xs l m d a b p q = absurd l
join_once (s ∷ sides) [] xs l m d a b p q = absurd l
join_once (s ∷ sides) (row ∷ rows) [] l m d a b p q = absurd m
join_once (true ∷ sides) (row ∷ rows) (None ∷ xs) l m d a b p q = join_once sides rows xs l m (λ t. rest (row t) _ _ (d t)) a.1 b p q
join_once (true ∷ sides) (row ∷ rows) (Some t ∷ xs) l m d a b p q = (
  join_misses t sides xs (same_lengths sides rows xs l m) p.0 (gates_none_misses t (part false sides rows) (part false sides xs) (other row t _ _ a.0 (d t)) b),
  join_once sides rows xs l m (λ t. rest (row t) _ _ (d t)) a.1 b p.1 q,
)
join_once (false ∷ sides) (row ∷ rows) (None ∷ xs) l m d a b p q = join_once sides rows xs l m (λ t. rest_right (row t) _ _ (d t)) a b.1 p q
join_once (false ∷ sides) (row ∷ rows) (Some t ∷ xs) l m d a b p q = (
  join_misses t sides xs (same_lengths sides rows xs l m) (gates_none_misses t (part true sides rows) (part true sides xs) (other_right row t _ _ b.0 (d t)) a) q.0,
  join_once sides rows xs l m (λ t. rest_right (row t) _ _ (d t)) a b.1 p q.1,
)

join_order : (sides : List Bool) (xs ys : List (Option ℕ)) → SameLength sides xs → SameLength xs ys
    → NotAfter (part true sides xs) (part true sides ys) → NotAfter (part false sides xs) (part false sides ys) → NotAfter xs ys
join_order [] [] ys l m a b = tt
join_order [] (x ∷ xs) ys l m a b = absurd l
join_order (s ∷ sides) [] ys l m a b = tt
join_order (s ∷ sides) (x ∷ xs) [] l m a b = absurd m
join_order (true ∷ sides) (x ∷ xs) (y ∷ ys) l m a b = elim a [ inl h ↦ inl h | inr h ↦ inr (h.0, join_order sides xs ys l m h.1 b) ]
join_order (false ∷ sides) (x ∷ xs) (y ∷ ys) l m a b = elim b [ inl h ↦ inl h | inr h ↦ inr (h.0, join_order sides xs ys l m a h.1) ]

sums_order : (a b c d x y : ℕ) (P Q R : Type 0) → x ≡ a + b → y ≡ c + d → (a < c) ⊎ ((a ≡ c) × P) → (b < d) ⊎ ((b ≡ d) × Q) → (P → Q → R) → (x < y) ⊎ ((x ≡ y) × R)
sums_order a b c d x y P Q R e f h k j = elim h [
  | inl p ↦ elim k [ inl q ↦ inl (omega arith) | inr q ↦ inl (omega (arith, q.0)) ]
  | inr p ↦ elim k [ inl q ↦ inl (omega (arith, p.0)) | inr q ↦ inr (omega (arith, p.0, q.0), j p.1 q.1) ]
]

flip_length : {X Y : Type 0} (xs : List X) (ys : List Y) → SameLength xs ys → SameLength ys xs
flip_length [] [] h = tt
flip_length [] (y ∷ ys) h = absurd h
flip_length (x ∷ xs) [] h = absurd h
flip_length (x ∷ xs) (y ∷ ys) h = flip_length xs ys h

through_length : {X Y Z : Type 0} (xs : List X) (ys : List Y) (zs : List Z) → SameLength xs ys → SameLength ys zs → SameLength xs zs
through_length [] [] [] h k = tt
through_length [] [] (z ∷ zs) h k = absurd k
through_length [] (y ∷ ys) zs h k = absurd h
through_length (x ∷ xs) [] zs h k = absurd h
through_length (x ∷ xs) (y ∷ ys) [] h k = absurd k
through_length (x ∷ xs) (y ∷ ys) (z ∷ zs) h k = through_length xs ys zs h k

from_length : {X Y : Type 0} (xs : List X) (ys : List Y) → length xs ≡ length ys → SameLength xs ys
from_length [] [] h = tt
from_length [] (y ∷ ys) h = absurd (omega arith)
from_length (x ∷ xs) [] h = absurd (omega arith)
from_length (x ∷ xs) (y ∷ ys) h = from_length xs ys (omega arith)

pub two_sets : (sides : List Bool) (rows : List Row) (xs : List (Option ℕ)) → length sides ≡ length rows → length xs ≡ length rows
    → Apart (part true sides rows) (part false sides rows)
    → IsLeast (part true sides rows) (part true sides xs) → IsLeast (part false sides rows) (part false sides xs) → IsLeast rows xs
two_sets sides rows xs n m d a b =
    let l : SameLength sides rows = from_length sides rows n in
    let k : SameLength rows xs = flip_length xs rows (from_length xs rows m) in
    record {
      pairing = record {
        gates = join_gates sides rows xs l k a.pairing.gates b.pairing.gates;
        once = join_once sides rows xs l k d a.pairing.gates b.pairing.gates a.pairing.once b.pairing.once;
      };
      first = λ ys h.
          let j : SameLength rows ys = gates_length rows ys h.gates in
          sums_order _ _ _ _ _ _ _ _ _ (costs_add sides rows xs l k) (costs_add sides rows ys l j)
          (a.first (part true sides ys) (part_pairing true sides rows ys h))
          (b.first (part false sides ys) (part_pairing false sides rows ys h))
          (join_order sides xs ys (same_lengths sides rows xs l k) (through_length xs rows ys (flip_length rows xs k) j));
    }

-- The other way: of the first pairing of two sets apart, what falls to one set is the set's first pairing.
record Woven (sides : List Bool) (rows : List Row) (ys zs : List (Option ℕ)) : Type 0 where
  pub both : List (Option ℕ)
  pub long : SameLength rows both
  pub trues : part true sides both ≡ ys
  pub falses : part false sides both ≡ zs

woven : (sides : List Bool) (rows : List Row) (ys zs : List (Option ℕ)) → SameLength sides rows → SameLength (part true sides rows) ys → SameLength (part false sides rows) zs → Woven sides rows ys zs
woven [] [] [] [] l a b = record { both = []; long = tt; trues = refl; falses = refl }
woven [] [] (y ∷ ys) zs l a b = absurd a
woven [] [] [] (z ∷ zs) l a b = absurd b
woven [] (row ∷ rows) ys zs l a b = absurd l
woven (s ∷ sides) [] ys zs l a b = absurd l
woven (true ∷ sides) (row ∷ rows) [] zs l a b = absurd a
woven (true ∷ sides) (row ∷ rows) (y ∷ ys) zs l a b =
    let w : Woven sides rows ys zs = woven sides rows ys zs l a b in
    record { both = y ∷ w.both; long = w.long; trues = ap (λ (o : List (Option ℕ)). y ∷ o) w.trues; falses = w.falses }
woven (false ∷ sides) (row ∷ rows) ys [] l a b = absurd b
woven (false ∷ sides) (row ∷ rows) ys (z ∷ zs) l a b =
    let w : Woven sides rows ys zs = woven sides rows ys zs l a b in
    record { both = z ∷ w.both; long = w.long; trues = w.trues; falses = ap (λ (o : List (Option ℕ)). z ∷ o) w.falses }

not_before : (x y : Option ℕ) → x ≡ y → EntryBefore x y → ⊥
not_before None y e b = b
not_before (Some s) None e b = absurd cc
not_before (Some s) (Some t) e b = let q : s ≡ t = cc in omega (arith, q, b)

-- lists that differ at one set alone have that set's order
part_order : (sides : List Bool) (xs ys : List (Option ℕ)) → SameLength sides xs → SameLength xs ys → part false sides xs ≡ part false sides ys → NotAfter xs ys → NotAfter (part true sides xs) (part true sides ys)
part_order [] xs ys l m e h = tt
part_order (s ∷ sides) [] ys l m e h = absurd l
part_order (s ∷ sides) (x ∷ xs) [] l m e h = absurd m
part_order (true ∷ sides) (x ∷ xs) (y ∷ ys) l m e h = elim h [ inl a ↦ inl a | inr a ↦ inr (a.0, part_order sides xs ys l m e a.1) ]
part_order (false ∷ sides) (x ∷ xs) (y ∷ ys) l m e h = elim h [ inl a ↦ absurd (not_before x y (cc) a) | inr a ↦ part_order sides xs ys l m (cc) a.1 ]

part_first : (a b c d x y : ℕ) (P Q : Type 0) → x ≡ a + b → y ≡ c + d → b ≡ d → (x < y) ⊎ ((x ≡ y) × P) → (P → Q) → (a < c) ⊎ ((a ≡ c) × Q)
part_first a b c d x y P Q e f g h k = elim h [ inl p ↦ inl (omega (arith, e, f, g, p)) | inr p ↦ inr (omega (arith, e, f, g, p.0), k p.1) ]

pub least_of_set : (sides : List Bool) (rows : List Row) (xs : List (Option ℕ)) → length sides ≡ length rows → Apart (part true sides rows) (part false sides rows) → IsLeast rows xs → IsLeast (part true sides rows) (part true sides xs)
least_of_set sides rows xs n d h =
    let l : SameLength sides rows = from_length sides rows n in
    let k : SameLength rows xs = gates_length rows xs h.pairing.gates in
    let f : IsPairing (part false sides rows) (part false sides xs) = part_pairing false sides rows xs h.pairing in
    record {
      pairing = part_pairing true sides rows xs h.pairing;
      first = λ ys p.
          let w : Woven sides rows ys (part false sides xs) = woven sides rows ys (part false sides xs) l (gates_length (part true sides rows) ys p.gates) (gates_length (part false sides rows) (part false sides xs) f.gates) in
          let gt : AllGate (part true sides rows) (part true sides w.both) = subst (AllGate (part true sides rows)) (sym w.trues) p.gates in
          let gf : AllGate (part false sides rows) (part false sides w.both) = subst (AllGate (part false sides rows)) (sym w.falses) f.gates in
          let q : IsPairing rows w.both = record {
            gates = join_gates sides rows w.both l w.long gt gf;
            once = join_once sides rows w.both l w.long d gt gf (subst Once (sym w.trues) p.once) (subst Once (sym w.falses) f.once);
          } in
          subst (λ (o : List (Option ℕ)). ComesFirst (part true sides rows) (part true sides xs) o) w.trues
          (part_first _ _ _ _ _ _ _ _ (costs_add sides rows xs l k) (costs_add sides rows w.both l w.long) (ap (cost (part false sides rows)) (sym w.falses)) (h.first w.both q)
          (part_order sides xs w.both (same_lengths sides rows xs l k) (through_length xs rows w.both (flip_length rows xs k) w.long) (sym w.falses)));
    }
