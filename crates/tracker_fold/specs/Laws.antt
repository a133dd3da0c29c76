-- What a fold is asked for, of the tracker's.
use Rattle.std.proofs.Common.{◌≡◌, ◌∙◌, sym, refl, ap, ℕ, ◌+◌, ◌≤◌, arith, List, [], ◌∷◌}
use Rattle.std.specs.declared.cmp.Ordering.TheVariants.{Less}
use Rattle.std.specs.List.{AllByRecursion}
use Rattle.std.specs.List.Sorted.{IsStrictlySortedBy}
use Rattle.trk_base.specs.Keys.{key_cmp}
use Rattle.plot_geometry.specs.Plots.{PlanePlot}
use Rattle.late_window.specs.Folding.{Rises, InSlot, stepped}
use Rattle.late_window.specs.SlotFirst.{slot_first}
use Rattle.slot_step.specs.Calls.{AreFromBefore}
use Rattle.slot_step.specs.Tracker.{step_tracks}
use Rattle.admission_log.specs.declared.entries.Entry.{Entry}
use Rattle.admission_log.specs.declared.entries.Entry.TheVariants.{Bias, Plot}
use Rattle.admission_log.specs.Entries.{slot_in}
use Rattle.admission_log.specs.EntryOrder.{entry_cmp, within_slot_cmp}
use Rattle.tracker_fold.specs.declared.state.TrackerState.{TrackerState}
use Rattle.tracker_fold.specs.Keys.{key_in, slot_of_key}
use Rattle.tracker_fold.specs.Steps.{next, planes, radars_after, IsBefore}
use Rattle.tracker_fold.specs.Earlier.{after_step, later_still}
use Rattle.tracker_fold.specs.PlaneOrder.{planes_of_slot, planes_rise}

-- a state that is before a slot is before each later one
pub stays_before : (s : TrackerState) (a b : ℕ) → a ≤ b → IsBefore s a → IsBefore s b
stays_before s a b le h = later_still a b s.table le h

tracks_after : (s : TrackerState) (n : ℕ) (ps : List PlanePlot) → AllByRecursion (λ p. p.key.slot ≡ n) ps → IsStrictlySortedBy (λ p q. key_cmp p.key q.key) ps → IsBefore s n → AreFromBefore (n + 1) (stepped (step_tracks s.life) s.table n ps)
tracks_after s n [] own rise h = later_still n (n + 1) s.table (omega arith) h
tracks_after s n (p ∷ ps) own rise h = after_step s.life n s.table (p ∷ ps) h own rise

-- after its step it is before each later slot
pub goes_before : (s : TrackerState) (n : ℕ) (entries : List Entry) → InSlot slot_in n entries → Rises entry_cmp key_in entries → IsBefore s n → IsBefore (next s n entries) (n + 1)
unfolding next
goes_before s n entries of_slot rising h =
    let radars = radars_after s.radars entries in
    tracks_after s n (planes radars entries) (planes_of_slot radars n entries of_slot) (planes_rise radars entries rising) h

-- entries in order are in the order of their slots
pub in_order : (x y : Entry) → entry_cmp x y ≡ Less → slot_in x ≤ slot_in y
in_order x y less = slot_first slot_in within_slot_cmp x y less

-- the slot is part of the key
slot_told : (x : Entry) → slot_of_key (key_in x) ≡ slot_in x
slot_told (Bias slot place radar bias) = refl
slot_told (Plot key raw) = refl

pub slot_in_key : (x y : Entry) → key_in x ≡ key_in y → slot_in x ≡ slot_in y
slot_in_key x y e = sym (slot_told x) ∙ ap slot_of_key e ∙ slot_told y
