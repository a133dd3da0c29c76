-- The step of a batch: its least pairing with the tracks, taken on the table at its start, tells
-- which plot updates which track and which begins one (Bar-Shalom, Li, Kirubarajan, "Estimation
-- with Applications to Tracking and Navigation", 1.4: data association and track formation).
use Rattle.std.specs.Prelude.{◌≡◌, ℕ, zero, suc, List, [], ◌∷◌, ◌++◌, ◌==◌, if◌then◌else◌, length, map, filter, Option, Some, None}
use Rattle.std.specs.List.{AllByRecursion}
use Rattle.assignment_dual.specs.Pairings.{Row}
use Rattle.assignment_dual.specs.Least.{least_pairing}

-- what a batch does with tracks T and plots P: the cost of a gate, or none; a track that goes on
-- with a plot; a track that a plot begins
pub record Tracking (T P : Type 0) : Type 0 where
  pub gate : T → P → Option ℕ
  pub update : T → P → T
  pub begin : P → T

-- what the track at each index of the table costs the plot
abbrev pub row : {T P : Type 0} → (T → P → Option ℕ) → List T → P → Row
row gate [] p i = None
row gate (t ∷ ts) p zero = gate t p
row gate (t ∷ ts) p (suc i) = row gate ts p i

abbrev pub rows : {T P : Type 0} → (T → P → Option ℕ) → List T → List P → List Row
rows gate ts ps = map (row gate ts) ps

-- the least of all pairings of the whole batch: for each plot the index of its track, or none
abbrev pub least : {T P : Type 0} → Tracking T P → List T → List P → List (Option ℕ)
least k ts ps = least_pairing (length ts) (rows k.gate ts ps)

-- each plot with its entry
abbrev pub entries : {P : Type 0} → List P → List (Option ℕ) → List (P × Option ℕ)
entries [] xs = []
entries (p ∷ ps) [] = []
entries (p ∷ ps) (x ∷ xs) = (p, x) ∷ entries ps xs

-- the plot that is paired with the track at an index
abbrev pub paired_plot : {P : Type 0} → List (P × Option ℕ) → ℕ → Option P
paired_plot [] i = None
paired_plot ((p, None) ∷ es) i = paired_plot es i
paired_plot ((p, Some j) ∷ es) i = if j == i then Some p else paired_plot es i

abbrev pub with_plot : {T P : Type 0} → (T → P → T) → T → Option P → T
with_plot update t None = t
with_plot update t (Some p) = update t p

-- each track of the table, updated by the plot that is paired with it
abbrev pub updated_tracks : {T P : Type 0} → (T → P → T) → (ℕ → Option P) → List T → List T
updated_tracks update plot [] = []
updated_tracks update plot (t ∷ ts) = with_plot update t (plot zero) ∷ updated_tracks update (λ i. plot (suc i)) ts

-- a track of each plot that is paired with none
abbrev pub begun_tracks : {T P : Type 0} → (P → T) → List (P × Option ℕ) → List T
begun_tracks begin [] = []
begun_tracks begin ((p, None) ∷ es) = begin p ∷ begun_tracks begin es
begun_tracks begin ((p, Some j) ∷ es) = begun_tracks begin es

-- the table after a batch; the plots' keys are above all births, so begun tracks stand last
unfoldable pub batch_step : {T P : Type 0} → Tracking T P → List T → List P → List T
batch_step k ts ps = updated_tracks k.update (paired_plot (entries ps (least k ts ps))) ts ++ begun_tracks k.begin (entries ps (least k ts ps))

-- the plots of one radar
abbrev pub of_radar : {P : Type 0} → (P → ℕ) → ℕ → List P → List P
of_radar radar r ps = filter (λ p. radar p == r) ps

-- the table at the start of the batch of radar r: after the batches of the radars below it, in rising order
unfoldable pub table_at : {T P : Type 0} → Tracking T P → (P → ℕ) → List T → List P → ℕ → List T
table_at k radar ts ps zero = ts
table_at k radar ts ps (suc r) = batch_step k (table_at k radar ts ps r) (of_radar radar r ps)

-- no track of the table gates one of these plots
abbrev pub GateNone : {T P : Type 0} → (T → P → Option ℕ) → List T → List P → Type 0
GateNone gate ts ps = AllByRecursion (λ t. AllByRecursion (λ p. gate t p ≡ None) ps) ts
