-- What a window shows, and what it stands for.
use Rattle.std.specs.Prelude.{◌≡◌, ◌≢◌, ◌≤◌, ℕ, Bool, not, ◌&&◌, List, [], ◌∷◌, ◌==◌, filter, map, nat_lt, Option, Some, None}
use Rattle.std.specs.List.{AllByRecursion, list_any}
use Rattle.std.specs.List.Sorted.{IsPermutation}
use Rattle.std.specs.declared.cmp.Ordering.{Ordering}
use Rattle.late_window.specs.Folding.{Rises, below, from, before, after, slots, states, OutsAt, AreOutsOf, latest}

-- a window, as its callers see it
pub record Seen (S I O : Type 0) : Type 0 where
  -- the state before slot low
  pub base : S
  -- the items that are kept, in rising order
  pub items : List I
  -- the state after each folded slot
  pub states : List S
  -- each folded slot with its out
  pub outs : List (ℕ × O)
  pub low : ℕ
  pub upto : ℕ

abbrev pub folded : {S I O : Type 0} → Seen S I O → List ℕ
folded w = map (λ o. o.0) w.outs

-- the state after the last folded slot
abbrev pub state_of : {S I O : Type 0} → Seen S I O → S
state_of w = latest w.base w.states

abbrev pub is_folded : {S I O : Type 0} → Seen S I O → ℕ → Bool
is_folded w n = list_any (λ m. m == n) (folded w)

-- the kept items in slots below this one that aren't folded
abbrev pub dirty_items : {S I O : Type 0} → (I → ℕ) → Seen S I O → ℕ → List I
dirty_items slot w upto = filter (λ x. nat_lt (slot x) upto && not (is_folded w (slot x))) w.items

-- the filled slots below this one that aren't folded
abbrev pub dirty_slots : {S I O : Type 0} → (I → ℕ) → Seen S I O → ℕ → List ℕ
dirty_slots slot w upto = slots slot (dirty_items slot w upto)

abbrev pub first : List ℕ → Option ℕ
first [] = None
first (n ∷ ns) = Some n

-- no two of these have one key
abbrev pub Differ : {I K : Type 0} → (I → K) → List I → Type 0
Differ key [] = Unit {0}
Differ key (x ∷ xs) = AllByRecursion (λ y. key x ≢ key y) xs × Differ key xs

-- no item of xs has the key of another, or of one that is kept
pub record AreNew {I K : Type 0} (key : I → K) (kept xs : List I) : Type 0 where
  pub differ : Differ key xs
  pub apart : AllByRecursion (λ x. AllByRecursion (λ y. key y ≢ key x) kept) xs

-- these are the items of h, in rising order
pub record AreInOrder {I K : Type 0} (cmp : I → I → Ordering) (key : I → K) (h xs : List I) : Type 0 where
  pub same : IsPermutation h xs
  pub rise : Rises cmp key xs

-- From a state, the window stands for these items, whatever their order: its base is the fold of those below low, it keeps those from low on, and the state and the out of each folded slot are those of the fold of all.
pub record StandsFor {S I O K : Type 0} (next : S → ℕ → List I → S) (is_out : S → ℕ → List I → O → Type 0) (slot : I → ℕ) (cmp : I → I → Ordering) (key : I → K) (start : S) (h : List I) (w : Seen S I O) : Type 0 where
  pub all : List I
  pub in_order : AreInOrder cmp key h all
  pub base : w.base ≡ before next slot start all w.low
  pub items : w.items ≡ from slot w.low all
  pub states : w.states ≡ map (after next slot start all) (folded w)
  pub outs : OutsAt next slot is_out start all (folded w) (map (λ o. o.1) w.outs)

-- What each window keeps to: the folded slots are the filled ones below a line, and their states and outs are those of the fold from the base.
pub record IsWindow {S I O K : Type 0} (next : S → ℕ → List I → S) (is_out : S → ℕ → List I → O → Type 0) (slot : I → ℕ) (cmp : I → I → Ordering) (key : I → K) (is_before : S → ℕ → Type 0) (w : Seen S I O) (line : ℕ) : Type 0 where
  pub rise : Rises cmp key w.items
  pub low : AllByRecursion (λ x. w.low ≤ slot x) w.items
  pub before : is_before w.base w.low
  pub line_low : w.low ≤ line
  pub line_upto : line ≤ w.upto
  pub folded : folded w ≡ slots slot (below slot line w.items)
  pub states : w.states ≡ states next slot w.base (below slot line w.items)
  pub outs : AreOutsOf next slot is_out w.base (below slot line w.items) (map (λ o. o.1) w.outs)
