-- The times of tracks and plots in a slot.
use Rattle.std.proofs.Common.{◌≡◌, ℕ, zero, suc, ◌+◌, ◌*◌, ◌<◌, ◌≤◌, List, [], ◌∷◌, get_or, map, Bool, true, false, eqb, Option, Some, None, arith}
use Rattle.std.specs.Prelude.{IfSome}
use Rattle.std.specs.List.{AllByRecursion}
use Rattle.std.specs.List.Sorted.{IsStrictlySortedBy}
use Rattle.std.specs.declared.cmp.Ordering.{Ordering}
use Rattle.std.specs.declared.cmp.Ordering.TheVariants.{Less}
use Rattle.std.proofs.lemmas.Bool.{leb-true, cond_both}
use Rattle.std.proofs.lemmas.Int.{ints}
use Rattle.std.proofs.lemmas.List.Elements.{All-from_recursion}
use Rattle.trk_base.specs.declared.keys.Key.{Key}
use Rattle.plot_geometry.specs.Plots.{PlanePlot}
use Rattle.fixed_imm.specs.Bounds.{IsTimeStep, time_step}
use Rattle.track_life.specs.declared.settings.LifeSettings.{LifeSettings}
use Rattle.track_life.specs.Tracks.{TrackState, begun, continued}
use Rattle.track_life.specs.Tables.{keep, is_kept}
use Rattle.slot_step.specs.Batches.{Tracking, entries, paired_plot, with_plot, updated_tracks, begun_tracks, batch_step, of_radar, table_at, least}
use Rattle.slot_step.specs.Slots.{unexpired, plot_radar}
use Rattle.slot_step.specs.Calls.{IsFromBefore, AreFromBefore, AreNear}
use Rattle.slot_step.specs.Tracker.{tracking, ordered}
use Rattle.slot_step.proofs.Interleavings.{all_of, all_append, all_contains, all_filter, all_weaker, filter_passes, in_filter}

module _ {T P : Type 0} (k : Tracking T P) (Q : T → Type 0) (R : P → Type 0) (goes_on : (t : T) (p : P) → Q t → R p → Q (k.update t p)) (begins : (p : P) → R p → Q (k.begin p)) where
  paired_of : (ps : List P) (xs : List (Option ℕ)) (i : ℕ) → AllByRecursion R ps → IfSome (paired_plot (entries ps xs) i) R
  paired_of [] xs i h = tt
  paired_of (p ∷ ps) [] i h = tt
  paired_of (p ∷ ps) (None ∷ xs) i h = paired_of ps xs i h.1
  paired_of (p ∷ ps) (Some j ∷ xs) i h = cond_both (eqb j i) (Some p) (paired_plot (entries ps xs) i) (λ x. IfSome x R) (λ _. h.0) (λ _. paired_of ps xs i h.1)

  updated_of : (f : ℕ → Option P) (ts : List T) → ((i : ℕ) → IfSome (f i) R) → AllByRecursion Q ts → AllByRecursion Q (updated_tracks k.update f ts)
  updated_of f [] g h = tt
  updated_of f (t ∷ ts) g h = (one (f 0) (g 0), updated_of (λ i. f (suc i)) ts (λ i. g (suc i)) h.1)
    where
      one : (x : Option P) → IfSome x R → Q (with_plot k.update t x)
      one None r = h.0
      one (Some p) r = goes_on t p h.0 r

  begun_of : (ps : List P) (xs : List (Option ℕ)) → AllByRecursion R ps → AllByRecursion Q (begun_tracks k.begin (entries ps xs))
  begun_of [] xs h = tt
  begun_of (p ∷ ps) [] h = tt
  begun_of (p ∷ ps) (None ∷ xs) h = (begins p h.0, begun_of ps xs h.1)
  begun_of (p ∷ ps) (Some j ∷ xs) h = begun_of ps xs h.1

  -- what holds of the tracks before and goes on with each plot holds at the start of each batch
  pub tables_of : (radar : P → ℕ) (ts : List T) (ps : List P) → AllByRecursion Q ts → AllByRecursion R ps → (r : ℕ) → AllByRecursion Q (table_at k radar ts ps r)
  unfolding table_at batch_step
  tables_of radar ts ps h g zero = h
  tables_of radar ts ps h g (suc r) =
      let own : AllByRecursion R (of_radar radar r ps) = all_filter R (λ p. eqb (radar p) r) ps g in
      let us = table_at k radar ts ps r in
      all_append Q _ _ (updated_of (paired_plot (entries (of_radar radar r ps) (least k us (of_radar radar r ps)))) us (λ i. paired_of (of_radar radar r ps) (least k us (of_radar radar r ps)) i own) (tables_of radar ts ps h g r))
      (begun_of (of_radar radar r ps) (least k us (of_radar radar r ps)) own)

-- a track in slot n: its last plot is at most a minute before the slot, and not after it
pub record IsCurrent (n : ℕ) (t : TrackState) : Type 0 where
  pub kept : 64 * n ≤ t.aim.time + 7680
  pub time : t.aim.time < 64 * (n + 1)
  pub birth : t.birth.time < 64 * (n + 1)

-- a plot of slot n
abbrev pub InSlot : ℕ → PlanePlot → Type 0
InSlot n p = p.key.slot ≡ n

pub record IsWithin (n time : ℕ) : Type 0 where
  pub from : 64 * n ≤ time
  pub to : time < 64 * n + 64

pub within_slot : (n : ℕ) (a : Key) → a.slot ≡ n → IsWithin n a.time
within_slot n a e = record { from = omega (arith, e, a.in_slot); to = omega (arith, e, a.in_slot) }

goes_on : (life : LifeSettings) (n : ℕ) (t : TrackState) (p : PlanePlot) → IsCurrent n t → InSlot n p → IsCurrent n (continued life.hits t p)
unfolding continued
goes_on life n t p h e = let w : IsWithin n p.key.time = within_slot n p.key e in record { kept = omega (arith, w.from); time = omega (arith, w.to); birth = h.birth }

begins : (life : LifeSettings) (n : ℕ) (p : PlanePlot) → InSlot n p → IsCurrent n (begun life.hits p)
unfolding begun
begins life n p e = let w : IsWithin n p.key.time = within_slot n p.key e in record { kept = omega (arith, w.from); time = omega (arith, w.to); birth = omega (arith, w.to) }

keep_most : (life : LifeSettings) (b : Bool) → keep life b ≤ 60
keep_most life true = life.keep_confirmed_range.1
keep_most life false = life.keep_tentative_range.1

pub current_start : (life : LifeSettings) (n : ℕ) (ts : List TrackState) → AreFromBefore n ts → AllByRecursion (IsCurrent n) (unexpired (ordered life) n ts)
current_start life n ts h = all_of (IsCurrent n) (unexpired (ordered life) n ts) (λ t c.
    let b : IsFromBefore n t = all_contains (IsFromBefore n) t ts h.each (in_filter (is_kept life n) t ts c) in
    let u : 64 * n ≤ t.aim.time + 128 * keep life t.confirmed = leb-true (64 * n) (t.aim.time + 128 * keep life t.confirmed) (filter_passes (is_kept life n) t ts c) in
    record { kept = omega (arith, u, keep_most life t.confirmed); time = omega (arith, b.time); birth = omega (arith, b.birth) })

pub currents : (life : LifeSettings) (n : ℕ) (ts : List TrackState) (ps : List PlanePlot) → AreFromBefore n ts → AllByRecursion (InSlot n) ps → (r : ℕ) → AllByRecursion (IsCurrent n) (table_at (tracking life) (plot_radar (ordered life)) (unexpired (ordered life) n ts) ps r)
currents life n ts ps h g r = tables_of (tracking life) (IsCurrent n) (InSlot n) (goes_on life n) (begins life n) (plot_radar (ordered life)) (unexpired (ordered life) n ts) ps (current_start life n ts h) g r

-- the filter goes from a track of the slot to a plot of it
near_step : (n : ℕ) (t : TrackState) (p : PlanePlot) → IsCurrent n t → InSlot n p → IsTimeStep (time_step t.aim.time p.key.time)
near_step n t p h e = let w : IsWithin n p.key.time = within_slot n p.key e in record { from = omega (arith, ints, h.time, w.from); to = omega (arith, ints, h.kept, w.to) }

pub near : (n : ℕ) (ts : List TrackState) (ps : List PlanePlot) → AllByRecursion (IsCurrent n) ts → AllByRecursion (InSlot n) ps → AreNear ts ps
near n ts ps h g = λ i p lt j t l. near_step n (get_or ts j t) (get_or ps i p) (All-from_recursion (IsCurrent n) ts h j t l) (All-from_recursion (InSlot n) ps g i p lt)

pub after : (n : ℕ) (ts : List TrackState) → AllByRecursion (IsCurrent n) ts → AllByRecursion (IsFromBefore (n + 1)) ts
after n ts h = all_weaker (IsCurrent n) (IsFromBefore (n + 1)) ts (λ t c. record { time = c.time; birth = c.birth }) h

-- births that rise, as a list of births and as an order of tracks
all_mapped : {X Y : Type 0} (f : X → Y) (Q : Y → Type 0) (xs : List X) → AllByRecursion Q (map f xs) → AllByRecursion (λ x. Q (f x)) xs
all_mapped f Q [] h = tt
all_mapped f Q (x ∷ xs) h = (h.0, all_mapped f Q xs h.1)

all_to_map : {X Y : Type 0} (f : X → Y) (Q : Y → Type 0) (xs : List X) → AllByRecursion (λ x. Q (f x)) xs → AllByRecursion Q (map f xs)
all_to_map f Q [] h = tt
all_to_map f Q (x ∷ xs) h = (h.0, all_to_map f Q xs h.1)

pub sorted_of_map : {X Y : Type 0} (cmp : Y → Y → Ordering) (f : X → Y) (xs : List X) → IsStrictlySortedBy cmp (map f xs) → IsStrictlySortedBy (λ a b. cmp (f a) (f b)) xs
unfolding IsStrictlySortedBy
sorted_of_map cmp f [] h = tt
sorted_of_map cmp f (x ∷ xs) h = (all_mapped f (λ y. cmp (f x) y ≡ Less) xs h.0, sorted_of_map cmp f xs h.1)

pub map_sorted : {X Y : Type 0} (cmp : Y → Y → Ordering) (f : X → Y) (xs : List X) → IsStrictlySortedBy (λ a b. cmp (f a) (f b)) xs → IsStrictlySortedBy cmp (map f xs)
unfolding IsStrictlySortedBy
map_sorted cmp f [] h = tt
map_sorted cmp f (x ∷ xs) h = (all_to_map f (λ y. cmp (f x) y ≡ Less) xs h.0, map_sorted cmp f xs h.1)
