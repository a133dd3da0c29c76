-- Parts of a slot's tracks and plots, when they cross, and what they make together.
use Rattle.std.specs.Prelude.{ℕ, List, [], ◌∷◌, fold, map, if◌then◌else◌, Contains}
use Rattle.std.specs.List.{AllByRecursion}
use Rattle.std.specs.Ordering.{is_lt}
use Rattle.std.specs.declared.cmp.Ordering.{Ordering}
use Rattle.slot_step.specs.Interleavings.{Interleaved, AllInterleaved, KeysDiffer, EachPair}
use Rattle.slot_step.specs.Batches.{Tracking}
use Rattle.slot_step.specs.Slots.{Ordered, IsTable, ArePlots, AreInSlot, IsBefore, IsGated, by_birth}
use Rattle.slot_step.specs.Certificates.{Certificate}

-- x more, before the first that comes after it
abbrev pub put_in : {X : Type 0} → (X → X → Ordering) → X → List X → List X
put_in cmp x [] = x ∷ []
put_in cmp x (y ∷ ys) = if is_lt (cmp x y) then x ∷ y ∷ ys else y ∷ put_in cmp x ys

-- two rising lists as one
unfoldable pub merged_by : {X : Type 0} → (X → X → Ordering) → List X → List X → List X
merged_by cmp [] ys = ys
merged_by cmp (x ∷ xs) ys = put_in cmp x (merged_by cmp xs ys)

-- the tracks of both tables, by birth
abbrev pub merged : {T P K : Type 0} → Ordered T P K → List T → List T → List T
merged o ts us = merged_by (by_birth o) ts us

-- the certificates of both, by radar and least plot
abbrev pub merged_certificates : {T P K : Type 0} → Ordered T P K → List (Certificate P K) → List (Certificate P K) → List (Certificate P K)
merged_certificates o cs ds = merged_by (λ c d. o.cmp (o.key c.first) (o.key d.first)) cs ds

-- two tables that share no birth
pub record AreBeside {T P K : Type 0} (o : Ordered T P K) (ts us : List T) : Type 0 where
  pub one : IsTable o ts
  pub other : IsTable o us
  pub births : KeysDiffer o.birth ts us

-- In slot n a track of the table ts gates one of the other plots, as it stands at the start of that
-- plot's batch, after the table's own batches of lower radars.
abbrev pub Reaches : {T P K : Type 0} → Tracking T P → Ordered T P K → ℕ → List T → List P → List P → Type 0
Reaches {P = P} k o n ts own others = (p : P) × Contains others p × IsGated k o ts n own p

-- neither part reaches the other
pub record DontCross {T P K : Type 0} (k : Tracking T P) (o : Ordered T P K) (n : ℕ) (ts us : List T) (ps qs : List P) : Type 0 where
  pub there : Reaches k o n ts ps qs → ⊥
  pub back : Reaches k o n us qs ps → ⊥

-- the plots of two tables before slot n that share no birth; zs are the plots of both
pub record AreTwoParts {T P K : Type 0} (o : Ordered T P K) (n : ℕ) (ts us : List T) (ps qs zs : List P) : Type 0 where
  pub plots : Interleaved ps qs zs
  pub of_slot : AreInSlot o n zs
  pub rising : ArePlots o zs
  pub beside : AreBeside o ts us
  pub one : IsBefore o ts n
  pub other : IsBefore o us n

-- a part of a slot: its tracks and its plots
pub record Part (T P : Type 0) : Type 0 where
  pub tracks : List T
  pub plots : List P

-- the tables of all parts as one, by merging one after the other
abbrev pub all_merged : {T P K : Type 0} → Ordered T P K → List T → List (List T) → List T
all_merged o ts tss = fold (merged o) ts tss

abbrev pub all_certificates : {T P K : Type 0} → Ordered T P K → List (Certificate P K) → List (List (Certificate P K)) → List (Certificate P K)
all_certificates o cs css = fold (merged_certificates o) cs css

-- parts of slot n, of which no two share a birth or a plot and no two cross; zs are the plots of all
pub record AreParts {T P K : Type 0} (k : Tracking T P) (o : Ordered T P K) (n : ℕ) (parts : List (Part T P)) (zs : List P) : Type 0 where
  pub plots : AllInterleaved (map (λ part. part.plots) parts) zs
  pub of_slot : AreInSlot o n zs
  pub rising : ArePlots o zs
  pub before : AllByRecursion (λ part. IsBefore o part.tracks n) parts
  pub beside : EachPair (λ one other. AreBeside o one.tracks other.tracks) parts
  pub apart : EachPair (λ one other. DontCross k o n one.tracks other.tracks one.plots other.plots) parts
