-- The certificates of a slot: for each batch the components of its gates, each with the part of the
-- whole batch's least pairing that is its own and with prices that prove that part.
use Rattle.std.specs.Prelude.{◌≡◌, ◌<◌, ◌↔◌, ℕ, ℤ, zero, suc, List, [], ◌∷◌, length, Option, Some, None, IsSome, Contains}
use Rattle.std.specs.List.{AllByRecursion, AllZip}
use Rattle.std.specs.List.Sorted.{IsStrictlySortedBy}
use Rattle.assignment_dual.specs.Problems.{Problem, IsProblem, Proves}
use Rattle.slot_step.specs.Batches.{Tracking, entries, least, of_radar}
use Rattle.slot_step.specs.Slots.{Ordered, ArePlots, plot_radar, batch_table}

-- A component: its plots, of which the first is the least, the births of its tracks, and its
-- assignment problem, in which a plot and a track are named by their indices in these lists; then
-- the pairing of its plots, and the prices of its plots and its tracks.
pub record Certificate (P K : Type 0) : Type 0 where
  pub first : P
  pub rest : List P
  pub births : List K
  pub costs : Problem
  pub pairing : List (Option ℕ)
  pub u : List ℤ
  pub v : List ℤ

abbrev pub plots : {P K : Type 0} → Certificate P K → List P
plots c = c.first ∷ c.rest

-- one track gates both plots
pub record ShareGate {T P : Type 0} (gate : T → P → Option ℕ) (ts : List T) (p q : P) : Type 0 where
  pub track : T
  pub known : Contains ts track
  pub one : IsSome (gate track p)
  pub other : IsSome (gate track q)

-- a walk of gates over these plots of the batch leads from p to q
abbrev pub IsGateWalk : {T P : Type 0} → (T → P → Option ℕ) → List T → List P → P → List P → P → Type 0
IsGateWalk gate ts ps p [] q = p ≡ q
IsGateWalk gate ts ps p (r ∷ rest) q = Contains ps r × ShareGate gate ts p r × IsGateWalk gate ts ps r rest q

-- q is a plot of the batch that a walk of gates joins to p
pub record AreJoined {T P : Type 0} (gate : T → P → Option ℕ) (ts : List T) (ps : List P) (p q : P) : Type 0 where
  pub known : Contains ps q
  pub over : List P
  pub walk : IsGateWalk gate ts ps p over q

-- a track of this birth gates one of the plots
pub record GatesOneOf {T P K : Type 0} (gate : T → P → Option ℕ) (birth : T → K) (ts : List T) (ps : List P) (b : K) : Type 0 where
  pub track : T
  pub plot : P
  pub known : Contains ts track
  pub is : birth track ≡ b
  pub own : Contains ps plot
  pub gates : IsSome (gate track plot)

-- x stands at this index of the list
abbrev pub IsAt : {X : Type 0} → List X → ℕ → X → Type 0
IsAt [] i x = ⊥
IsAt (y ∷ ys) zero x = y ≡ x
IsAt (y ∷ ys) (suc i) x = IsAt ys i x

-- the track whose birth stands at index j gates the plot at index i, at this cost
pub record IsGateAt {T P K : Type 0} (gate : T → P → Option ℕ) (birth : T → K) (ts : List T) (c : Certificate P K) (i j cost : ℕ) : Type 0 where
  pub plot : P
  pub track : T
  pub plot_at : IsAt (plots c) i plot
  pub known : Contains ts track
  pub birth_at : IsAt c.births j (birth track)
  pub gate_is : gate track plot ≡ Some cost

-- the whole batch's least pairing gives the plot the track whose birth stands at index j
pub record IsPairedWith {T P K : Type 0} (k : Tracking T P) (o : Ordered T P K) (ts : List T) (ps : List P) (births : List K) (p : P) (j : ℕ) : Type 0 where
  pub index : ℕ
  pub track : T
  pub entry : Contains (entries ps (least k ts ps)) (p, Some index)
  pub track_at : IsAt ts index track
  pub birth_at : IsAt births j (o.birth track)

-- the plot's entry is that of the whole batch's least pairing
abbrev pub IsPairedAs : {T P K : Type 0} → Tracking T P → Ordered T P K → List T → List P → List K → P → Option ℕ → Type 0
IsPairedAs k o ts ps births p None = Contains (entries ps (least k ts ps)) (p, None)
IsPairedAs k o ts ps births p (Some j) = IsPairedWith k o ts ps births p j

-- The component of its first plot among the plots ps of a batch, which finds the tracks ts. The
-- prices are any that prove it.
pub record IsCertificateOf {T P K : Type 0} (k : Tracking T P) (o : Ordered T P K) (ts : List T) (ps : List P) (c : Certificate P K) : Type 0 where
  pub plots_rise : ArePlots o (plots c)
  pub plots_are : (p : P) → Contains (plots c) p ↔ AreJoined k.gate ts ps c.first p
  pub births_rise : IsStrictlySortedBy o.cmp c.births
  pub births_are : (b : K) → Contains c.births b ↔ GatesOneOf k.gate o.birth ts (plots c) b
  pub problem : IsProblem c.costs
  pub plot_count : c.costs.plots ≡ length (plots c)
  pub track_count : c.costs.tracks ≡ length c.births
  pub edges_are : (i j cost : ℕ) → Contains c.costs.edges (i, j, cost) ↔ IsGateAt k.gate o.birth ts c i j cost
  pub pairing_is : AllZip (IsPairedAs k o ts ps c.births) (plots c) c.pairing
  pub proves : Proves c.costs c.pairing c.u c.v

-- a component of the batch of its first plot in slot n
abbrev pub IsCertificateIn : {T P K : Type 0} → Tracking T P → Ordered T P K → List T → ℕ → List P → Certificate P K → Type 0
IsCertificateIn k o ts n ps c = IsCertificateOf k o (batch_table k o ts n ps (plot_radar o c.first)) (of_radar (plot_radar o) (plot_radar o c.first) ps) c

-- one for each component of the batch ps, which finds the tracks ts, in the order of their least plots
pub record AreCertificatesOf {T P K : Type 0} (k : Tracking T P) (o : Ordered T P K) (ts : List T) (ps : List P) (cs : List (Certificate P K)) : Type 0 where
  pub each : AllByRecursion (IsCertificateOf k o ts ps) cs
  pub whole : (p : P) → Contains ps p → (c : Certificate P K) × Contains cs c × Contains (plots c) p
  pub order : IsStrictlySortedBy (λ c d. o.cmp (o.key c.first) (o.key d.first)) cs

-- one for each component of slot n's batches of the radars below r, in the order of radar and least plot
pub record AreCertificatesBelow {T P K : Type 0} (k : Tracking T P) (o : Ordered T P K) (ts : List T) (n : ℕ) (ps : List P) (r : ℕ) (cs : List (Certificate P K)) : Type 0 where
  pub each : AllByRecursion (IsCertificateIn k o ts n ps) cs
  pub radars : AllByRecursion (λ c. plot_radar o c.first < r) cs
  pub whole : (p : P) → Contains ps p → plot_radar o p < r → (c : Certificate P K) × Contains cs c × Contains (plots c) p
  pub order : IsStrictlySortedBy (λ c d. o.cmp (o.key c.first) (o.key d.first)) cs

-- one for each component of the batches of slot n, in the order of radar and least plot
pub record AreCertificates {T P K : Type 0} (k : Tracking T P) (o : Ordered T P K) (ts : List T) (n : ℕ) (ps : List P) (cs : List (Certificate P K)) : Type 0 where
  pub each : AllByRecursion (IsCertificateIn k o ts n ps) cs
  pub whole : (p : P) → Contains ps p → (c : Certificate P K) × Contains cs c × Contains (plots c) p
  pub order : IsStrictlySortedBy (λ c d. o.cmp (o.key c.first) (o.key d.first)) cs
