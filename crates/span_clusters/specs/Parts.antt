-- Parts of a span of slots, when two cross, and what they make together.
use Rattle.std.specs.Prelude.{◌≡◌, ◌<◌, ◌⊎◌, ◌==◌, if◌then◌else◌, ℕ, List, [], ◌∷◌, map, length, min, Bool, Contains}
use Rattle.std.specs.List.{AllByRecursion}
use Rattle.std.specs.declared.cmp.Ordering.{Ordering}
use Rattle.late_window.specs.Folding.{Rises, InSlot, at_slot, before, after}
use Rattle.span_clusters.specs.Interleavings.{Interleaved, AllInterleaved, EachPair, IsJoin}

-- a part of a span: its number, its members before the span, and its items
pub record Part (S I : Type 0) : Type 0 where
  pub number : ℕ
  pub start : S
  pub items : List I

-- some item is of slot n
abbrev pub IsFilled : {I : Type 0} → (I → ℕ) → ℕ → List I → Type 0
IsFilled slot n xs = 0 < length (at_slot slot n xs)

-- in the step of slot n with the own items, a member of the state gates one of the others
abbrev pub Reaches : {S I : Type 0} → (S → ℕ → List I → I → Type 0) → S → ℕ → List I → List I → Type 0
Reaches {S} {I} gates s n own others = (x : I) × Contains others x × gates s n own x

-- two states that share no member and may take the step of slot n, one with the items xs, one with
-- the items ys; zs are the items of both
pub record AreTwoInSlot {S I K : Type 0} (cmp : I → I → Ordering) (key : I → K) (slot : I → ℕ) (is_before : S → ℕ → Type 0) (is_beside : S → S → Type 0) (n : ℕ) (s t : S) (xs ys zs : List I) : Type 0 where
  pub items : Interleaved xs ys zs
  pub of_slot : InSlot slot n zs
  pub rising : Rises cmp key zs
  pub beside : is_beside s t
  pub one : is_before s n
  pub other : is_before t n

-- in slot n neither reaches the other
pub record AreApart {S I : Type 0} (gates : S → ℕ → List I → I → Type 0) (n : ℕ) (s t : S) (xs ys : List I) : Type 0 where
  pub there : Reaches gates s n xs ys → ⊥
  pub back : Reaches gates t n ys xs → ⊥

-- in some slot a member of the own run, as it stands there, gates one of the other items
abbrev pub ReachesItems : {S I : Type 0} → (S → ℕ → List I → S) → (I → ℕ) → (S → ℕ → List I → I → Type 0) → S → List I → List I → Type 0
ReachesItems next slot gates s own others = (n : ℕ) × Reaches gates (before next slot s own n) n (at_slot slot n own) (at_slot slot n others)

-- in some slot a member of p's own run gates an item of q
abbrev pub ReachesPart : {S I : Type 0} → (S → ℕ → List I → S) → (I → ℕ) → (S → ℕ → List I → I → Type 0) → Part S I → Part S I → Type 0
ReachesPart next slot gates p q = ReachesItems next slot gates p.start p.items q.items

-- one reaches the other
abbrev pub Cross : {S I : Type 0} → (S → ℕ → List I → S) → (I → ℕ) → (S → ℕ → List I → I → Type 0) → Part S I → Part S I → Type 0
Cross next slot gates p q = ReachesPart next slot gates p q ⊎ ReachesPart next slot gates q p

abbrev pub DontCross : {S I : Type 0} → (S → ℕ → List I → S) → (I → ℕ) → (S → ℕ → List I → I → Type 0) → Part S I → Part S I → Type 0
DontCross next slot gates p q = Cross next slot gates p q → ⊥

abbrev pub starts : {S I : Type 0} → List (Part S I) → List S
starts parts = map (λ p. p.start) parts

abbrev pub all_items : {S I : Type 0} → List (Part S I) → List (List I)
all_items parts = map (λ p. p.items) parts

-- A splitting of the state s and the items zs: each member and each item is in exactly one part.
pub record IsSplitting {S I : Type 0} (slot : I → ℕ) (is_before : S → ℕ → Type 0) (is_beside : S → S → Type 0) (merged : S → S → S) (s : S) (zs : List I) (parts : List (Part S I)) : Type 0 where
  pub state : IsJoin merged (starts parts) s
  pub items : AllInterleaved (all_items parts) zs
  pub beside : EachPair (λ p q. is_beside p.start q.start) parts
  pub before : AllByRecursion (λ p. AllByRecursion (λ z. is_before p.start (slot z)) zs) parts

-- the state of each part after a slot
abbrev pub states_after : {S I : Type 0} → (S → ℕ → List I → S) → (I → ℕ) → List (Part S I) → ℕ → List S
states_after next slot parts n = map (λ p. after next slot p.start p.items n) parts

-- where there are items the first out is theirs and the rest are the others'; else all are the others'
abbrev pub OutsBegin : {I O : Type 0} → (O → Type 0) → (List O → Type 0) → List I → List O → Type 0
OutsBegin own others [] outs = others outs
OutsBegin own others (x ∷ xs) [] = ⊥
OutsBegin own others (x ∷ xs) (o ∷ outs) = own o × others outs

-- these are outs of the steps of slot n, one for each part with items in it
abbrev pub AreOutsAt : {S I O : Type 0} → (S → ℕ → List I → S) → (I → ℕ) → (S → ℕ → List I → O → Type 0) → ℕ → List (Part S I) → List O → Type 0
AreOutsAt next slot is_out n [] outs = outs ≡ []
AreOutsAt next slot is_out n (p ∷ parts) outs = OutsBegin (is_out (before next slot p.start p.items n) n (at_slot slot n p.items)) (AreOutsAt next slot is_out n parts) (at_slot slot n p.items) outs

-- the items whose number passes the test
abbrev pub picked_items : {I : Type 0} → (ℕ → Bool) → List ℕ → List I → List I
picked_items f [] xs = []
picked_items f (k ∷ numbers) [] = []
picked_items f (k ∷ numbers) (x ∷ xs) = if f k then x ∷ picked_items f numbers xs else picked_items f numbers xs

-- the part of number k, where each member and each item has a number
abbrev pub numbered : {S I : Type 0} → (S → List ℕ → (ℕ → Bool) → S) → S → List I → List ℕ → List ℕ → ℕ → Part S I
numbered picked s xs members items k = record { number = k; start = picked s members (λ j. j == k); items = picked_items (λ j. j == k) items xs }

-- rest is the parts without p
abbrev pub Without : {S I : Type 0} → Part S I → List (Part S I) → List (Part S I) → Type 0
Without p [] rest = ⊥
Without {S} {I} p (q ∷ parts) rest = ((p ≡ q) × (rest ≡ parts)) ⊎ ((others : List (Part S I)) × (rest ≡ q ∷ others) × Without p parts others)

-- two parts as one, of the lower number, where the items are those of both
abbrev pub joined : {S I : Type 0} → (S → S → S) → Part S I → Part S I → List I → Part S I
joined merged p q items = record { number = min p.number q.number; start = merged p.start q.start; items = items }
