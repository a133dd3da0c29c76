-- A fold over the filled slots of a list of items.
use Rattle.std.specs.Prelude.{◌≡◌, ◌≢◌, ℕ, zero, suc, List, [], ◌∷◌, ◌==◌, if◌then◌else◌, filter, map, nat_lt, nat_le}
use Rattle.std.specs.List.{AllByRecursion}
use Rattle.std.specs.declared.cmp.Ordering.{Ordering}
use Rattle.std.specs.declared.cmp.Ordering.TheVariants.{Less}

-- x stands before y, and has another key
pub record ComesBefore {I K : Type 0} (cmp : I → I → Ordering) (key : I → K) (x y : I) : Type 0 where
  pub order : cmp x y ≡ Less
  pub keys : key x ≢ key y

-- the items strictly rise, with different keys
abbrev pub Rises : {I K : Type 0} → (I → I → Ordering) → (I → K) → List I → Type 0
Rises cmp key [] = Unit {0}
Rises cmp key (x ∷ xs) = AllByRecursion (ComesBefore cmp key x) xs × Rises cmp key xs

-- all of one slot
abbrev pub InSlot : {I : Type 0} → (I → ℕ) → ℕ → List I → Type 0
InSlot slot n xs = AllByRecursion (λ x. slot x ≡ n) xs

-- the items of one slot, in their order
abbrev pub at_slot : {I : Type 0} → (I → ℕ) → ℕ → List I → List I
at_slot slot n xs = filter (λ x. slot x == n) xs

-- the items below a slot, and those from it on
abbrev pub below : {I : Type 0} → (I → ℕ) → ℕ → List I → List I
below slot n xs = filter (λ x. nat_lt (slot x) n) xs

abbrev pub from : {I : Type 0} → (I → ℕ) → ℕ → List I → List I
from slot n xs = filter (λ x. nat_le n (slot x)) xs

-- the step of a slot that is filled; else the state stays
abbrev pub stepped : {S I : Type 0} → (S → ℕ → List I → S) → S → ℕ → List I → S
stepped next s n [] = s
stepped next s n (x ∷ xs) = next s n (x ∷ xs)

-- the state before a slot: the filled slots below it, in rising order
unfoldable pub before : {S I : Type 0} → (S → ℕ → List I → S) → (I → ℕ) → S → List I → ℕ → S
before next slot s xs zero = s
before next slot s xs (suc n) = stepped next (before next slot s xs n) n (at_slot slot n xs)

-- the state after a slot, which is its rest where it isn't filled
unfoldable pub after : {S I : Type 0} → (S → ℕ → List I → S) → (I → ℕ) → S → List I → ℕ → S
after next slot s xs n = next (before next slot s xs n) n (at_slot slot n xs)

-- one slot more, before those that rise from it on
abbrev pub with_slot : ℕ → List ℕ → List ℕ
with_slot n [] = n ∷ []
with_slot n (m ∷ ms) = if n == m then m ∷ ms else n ∷ m ∷ ms

-- the filled slots of items that rise
unfoldable pub slots : {I : Type 0} → (I → ℕ) → List I → List ℕ
slots slot [] = []
slots slot (x ∷ xs) = with_slot (slot x) (slots slot xs)

-- the state after each filled slot
abbrev pub states : {S I : Type 0} → (S → ℕ → List I → S) → (I → ℕ) → S → List I → List S
states next slot s xs = map (after next slot s xs) (slots slot xs)

-- the state is before the first item's slot, if there is one
abbrev pub BeforeFirst : {S I : Type 0} → (S → ℕ → Type 0) → (I → ℕ) → S → List I → Type 0
BeforeFirst is_before slot s [] = Unit {0}
BeforeFirst is_before slot s (x ∷ xs) = is_before s (slot x)

-- an out for each of these slots
abbrev pub OutsAt : {S I O : Type 0} → (S → ℕ → List I → S) → (I → ℕ) → (S → ℕ → List I → O → Type 0) → S → List I → List ℕ → List O → Type 0
OutsAt next slot is_out s xs [] os = os ≡ []
OutsAt next slot is_out s xs (n ∷ ns) [] = ⊥
OutsAt next slot is_out s xs (n ∷ ns) (o ∷ os) = is_out (before next slot s xs n) n (at_slot slot n xs) o × OutsAt next slot is_out s xs ns os

-- an out for each filled slot
abbrev pub AreOutsOf : {S I O : Type 0} → (S → ℕ → List I → S) → (I → ℕ) → (S → ℕ → List I → O → Type 0) → S → List I → List O → Type 0
AreOutsOf next slot is_out s xs os = OutsAt next slot is_out s xs (slots slot xs) os

-- how many items at the beginning are of slot n
abbrev pub group_count : {I : Type 0} → (I → ℕ) → ℕ → List I → ℕ
group_count slot n [] = 0
group_count slot n (x ∷ xs) = if slot x == n then suc (group_count slot n xs) else 0

-- the last of the states after s, or s itself
abbrev pub latest : {S : Type 0} → S → List S → S
latest s [] = s
latest s (t ∷ ts) = latest t ts

-- what is marked is so against the state before; marks are neither read nor kept by the step
pub record IsMark {S I : Type 0} (next : S → ℕ → List I → S) (bare : S → S) (mark : S → S → S) : Type 0 where
  pub hidden : (s t : S) → bare (mark s t) ≡ bare t
  pub unread : (s t : S) (n : ℕ) (xs : List I) → bare s ≡ bare t → bare (next s n xs) ≡ bare (next t n xs)
  pub anew : (s t u : S) → bare t ≡ bare u → mark s t ≡ mark s u
