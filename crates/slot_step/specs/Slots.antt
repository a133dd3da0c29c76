-- The step of a slot without numbers: expiry, and then the batches of the slot's radars.
use Rattle.std.specs.Prelude.{◌≡◌, ◌<◌, ◌≤◌, ℕ, List, filter, Bool, true, IsSome, Contains}
use Rattle.std.specs.List.{AllByRecursion}
use Rattle.std.specs.Cmp.{IsTotalOrder}
use Rattle.std.specs.List.Sorted.{IsStrictlySortedBy}
use Rattle.std.specs.declared.cmp.Ordering.{Ordering}
use Rattle.std.specs.declared.cmp.Ordering.TheVariants.{Less, Equal}
use Rattle.slot_step.specs.Batches.{Tracking, table_at}

-- where tracks T and plots P stand in the one order of keys K, and whether a track is kept at the start of a slot
pub record Ordered (T P K : Type 0) : Type 0 where
  pub cmp : K → K → Ordering
  pub birth : T → K
  pub key : P → K
  pub slot : K → ℕ
  pub radar : K → ℕ
  pub kept : ℕ → T → Bool

-- what is asked of tracks, plots and keys
pub record OrderLaws {T P K : Type 0} (k : Tracking T P) (o : Ordered T P K) : Type 0 where
  pub total : IsTotalOrder o.cmp
  pub exact : (a b : K) → o.cmp a b ≡ Equal → a ≡ b
  pub by_slot : (a b : K) → o.slot a < o.slot b → o.cmp a b ≡ Less
  pub by_radar : (a b : K) → o.slot a ≡ o.slot b → o.radar a < o.radar b → o.cmp a b ≡ Less
  pub birth_stays : (t : T) (p : P) → o.birth (k.update t p) ≡ o.birth t
  pub birth_is_key : (p : P) → o.birth (k.begin p) ≡ o.key p
  pub kept_before : (t : T) (a b : ℕ) → a ≤ b → o.kept b t ≡ true → o.kept a t ≡ true

abbrev pub plot_radar : {T P K : Type 0} → Ordered T P K → P → ℕ
plot_radar o p = o.radar (o.key p)

abbrev pub plot_slot : {T P K : Type 0} → Ordered T P K → P → ℕ
plot_slot o p = o.slot (o.key p)

abbrev pub by_key : {T P K : Type 0} → Ordered T P K → P → P → Ordering
by_key o p q = o.cmp (o.key p) (o.key q)

abbrev pub by_birth : {T P K : Type 0} → Ordered T P K → T → T → Ordering
by_birth o t u = o.cmp (o.birth t) (o.birth u)

-- plots in strictly rising key
abbrev pub ArePlots : {T P K : Type 0} → Ordered T P K → List P → Type 0
ArePlots o ps = IsStrictlySortedBy (by_key o) ps

-- tracks in strictly rising birth
abbrev pub IsTable : {T P K : Type 0} → Ordered T P K → List T → Type 0
IsTable o ts = IsStrictlySortedBy (by_birth o) ts

abbrev pub AreInSlot : {T P K : Type 0} → Ordered T P K → ℕ → List P → Type 0
AreInSlot o n ps = AllByRecursion (λ p. plot_slot o p ≡ n) ps

-- the tracks that have not expired at the start of slot n
abbrev pub unexpired : {T P K : Type 0} → Ordered T P K → ℕ → List T → List T
unexpired o n ts = filter (o.kept n) ts

-- a radar's index is below this: it has one octet
abbrev pub radar_limit : ℕ
radar_limit = 256

-- the table at the start of the batch of radar r in slot n
abbrev pub batch_table : {T P K : Type 0} → Tracking T P → Ordered T P K → List T → ℕ → List P → ℕ → List T
batch_table k o ts n ps r = table_at k (plot_radar o) (unexpired o n ts) ps r

-- the table after slot n with these plots: expiry at the slot, and then the batches of the radars in rising order
unfoldable pub run : {T P K : Type 0} → Tracking T P → Ordered T P K → List T → ℕ → List P → List T
run k o ts n ps = batch_table k o ts n ps radar_limit

-- the tracks of a table and their births are from before slot n
pub record IsBefore {T P K : Type 0} (o : Ordered T P K) (ts : List T) (n : ℕ) : Type 0 where
  pub table : IsTable o ts
  pub births : AllByRecursion (λ t. o.slot (o.birth t) < n) ts

-- a track, as it stands at the start of the plot's batch, gates the plot
abbrev pub IsGated : {T P K : Type 0} → Tracking T P → Ordered T P K → List T → ℕ → List P → P → Type 0
IsGated {T} k o ts n ps p = (t : T) × Contains (batch_table k o ts n ps (plot_radar o p)) t × IsSome (k.gate t p)
