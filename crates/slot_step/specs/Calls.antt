-- What the step of a slot is called with: the batches of the slot's radars, and tracks from before it.
use Rattle.std.specs.Prelude.{◌≡◌, ◌++◌, ◌<◌, ◌*◌, ◌-◌, ℕ, List, get_or, map, flat_map}
use Rattle.std.specs.List.{All, AllByRecursion}
use Rattle.std.specs.List.Sorted.{IsStrictlySortedBy, IsStrictlyIncreasing}
use Rattle.std.specs.declared.cmp.Ordering.TheVariants.{Less}
use Rattle.trk_base.specs.Keys.{key_cmp}
use Rattle.plot_geometry.specs.Plots.{PlanePlot}
use Rattle.fixed_imm.specs.Bounds.{IsTimeStep, time_step}
use Rattle.track_life.specs.Tracks.{TrackState}
use Rattle.slot_step.specs.OneBatch.{Batch, IsBatch}

-- plots of one slot
abbrev pub AreOfOneSlot : List PlanePlot → Type 0
AreOfOneSlot ps = (n : ℕ) × AllByRecursion (λ p. p.key.slot ≡ n) ps

-- the plot at this index is of slot n and above the one before it
pub record GoesOn (n : ℕ) (ps : List PlanePlot) (i : ℕ) : Type 0 where
  pub slot : (d : PlanePlot) → (get_or ps i d).key.slot ≡ n
  pub above : (d : PlanePlot) → 0 < i → key_cmp (get_or ps (i - 1) d).key (get_or ps i d).key ≡ Less

-- the plots of the first radar, in front of the others
pub record IsFirstBatch (ps : List PlanePlot) (b : Batch) : Type 0 where
  pub batch : IsBatch b
  pub others : List PlanePlot
  pub all : ps ≡ b.plots ++ others
  pub above : AllByRecursion (λ p. b.radar < p.key.radar) others

-- all plots of these batches, in their order
abbrev pub plots_of : List Batch → List PlanePlot
plots_of bs = flat_map (λ b. b.plots) bs

-- batches of slot n, in strictly rising radar
pub record AreBatches (n : ℕ) (bs : List Batch) : Type 0 where
  pub each : AllByRecursion IsBatch bs
  pub of_slot : AllByRecursion (λ b. AllByRecursion (λ p. p.key.slot ≡ n) b.plots) bs
  pub rising : IsStrictlyIncreasing (map (λ b. b.radar) bs)

-- the times of its last plot and of its first one, in 1/128 s, are before the start of slot n
pub record IsFromBefore (n : ℕ) (t : TrackState) : Type 0 where
  pub time : t.aim.time < 64 * n
  pub birth : t.birth.time < 64 * n

-- tracks from before slot n, in strictly rising birth
pub record AreFromBefore (n : ℕ) (ts : List TrackState) : Type 0 where
  pub rising : IsStrictlySortedBy (λ t u. key_cmp t.birth u.birth) ts
  pub each : AllByRecursion (IsFromBefore n) ts

-- the time of each track is so near to each plot's that the filter goes from one to the other
abbrev pub AreNear : List TrackState → List PlanePlot → Type 0
AreNear ts ps = All (λ p. All (λ t. IsTimeStep (time_step t.aim.time p.key.time)) ts) ps
