-- Numbers are given to the tracks of a run.
use Rattle.std.proofs.Common.{◌≡◌, sym, ℕ, ◌<◌, List, [], ◌∷◌, map, None, arith, subst}
use Rattle.std.specs.List.{AllByRecursion}
use Rattle.std.specs.List.Sorted.{IsStrictlySortedBy}
use Rattle.trk_base.specs.Keys.{key_cmp}
use Rattle.track_life.specs.declared.settings.LifeSettings.{LifeSettings}
use Rattle.track_life.specs.Tracks.{TrackState}
use Rattle.track_life.specs.Numbers.{with_number, assigned}
use Rattle.track_life.proofs.Numbering.{bare_assigned}
use Rattle.slot_step.specs.OneBatch.{Batch}
use Rattle.slot_step.specs.Calls.{AreBatches, AreFromBefore, IsFromBefore, plots_of}
use Rattle.slot_step.specs.Slots.{IsBefore}
use Rattle.slot_step.specs.Tracker.{tracking, ordered, numbering, run_tracks, step_tracks}
use Rattle.slot_step.proofs.Batched.{plots_in_slot}
use Rattle.slot_step.proofs.Interleavings.{all_weaker}
use Rattle.slot_step.proofs.Numbering.{numbers_stay}
use Rattle.slot_step.proofs.Slotted.{sorted_of_map, map_sorted}
use Rattle.slot_step.proofs.Tracker.{tracks_ordered, tracks_numbered}

-- a table from before a slot is one in the order of keys
pub is_before : (life : LifeSettings) (n : ℕ) (ts : List TrackState) → AreFromBefore n ts → IsBefore (ordered life) ts n
is_before life n ts h = record { table = h.rising; births = all_weaker (IsFromBefore n) (λ t. t.birth.slot < n) ts (λ t b. omega (arith, b.birth, t.birth.in_slot)) h.each }

-- a run keeps the numbers that there are, and then the others are given theirs
pub step_is : (life : LifeSettings) (n : ℕ) (ts : List TrackState) (bs : List Batch) → AreBatches n bs → AreFromBefore n ts → step_tracks life ts n (plots_of bs) ≡ assigned (run_tracks life ts n (plots_of bs))
step_is life n ts bs h g = numbers_stay (tracking life) (ordered life) (tracks_ordered life) (numbering assigned) (tracks_numbered life assigned bare_assigned) ts n (plots_of bs) (is_before life n ts g) (plots_in_slot n bs h)

all_bare : (n : ℕ) (ts : List TrackState) → AllByRecursion (IsFromBefore n) ts → AllByRecursion (IsFromBefore n) (map (with_number None) ts)
all_bare n [] h = tt
all_bare n (t ∷ ts) h = (record { time = h.0.time; birth = h.0.birth }, all_bare n ts h.1)

all_from_bare : (n : ℕ) (ts : List TrackState) → AllByRecursion (IsFromBefore n) (map (with_number None) ts) → AllByRecursion (IsFromBefore n) ts
all_from_bare n [] h = tt
all_from_bare n (t ∷ ts) h = (record { time = h.0.time; birth = h.0.birth }, all_from_bare n ts h.1)

-- numbers change nothing of when tracks are from
pub assigned_before : (n : ℕ) (ts : List TrackState) → AreFromBefore n ts → AreFromBefore n (assigned ts)
assigned_before n ts h = record {
  rising = sorted_of_map (λ t u. key_cmp t.birth u.birth) (with_number None) (assigned ts)
      (subst (IsStrictlySortedBy (λ t u. key_cmp t.birth u.birth)) (sym (bare_assigned ts)) (map_sorted (λ t u. key_cmp t.birth u.birth) (with_number None) ts h.rising));
  each = all_from_bare n (assigned ts) (subst (AllByRecursion (IsFromBefore n)) (sym (bare_assigned ts)) (all_bare n ts h.each));
}

-- an empty table is from before any slot
pub none_before : (n : ℕ) → AreFromBefore n []
unfolding IsStrictlySortedBy
none_before n = record { rising = tt; each = tt }
