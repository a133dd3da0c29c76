-- The step of a slot leaves tracks that are from before the next slot.
use Rattle.std.proofs.Common.{◌≡◌, sym, ℕ, ◌+◌, ◌≤◌, List, arith, subst}
use Rattle.std.specs.List.{AllByRecursion}
use Rattle.std.specs.List.Sorted.{IsStrictlySortedBy}
use Rattle.trk_base.specs.Keys.{key_cmp}
use Rattle.plot_geometry.specs.Plots.{PlanePlot}
use Rattle.track_life.specs.declared.settings.LifeSettings.{LifeSettings}
use Rattle.track_life.specs.Tracks.{TrackState}
use Rattle.track_life.specs.Numbers.{assigned}
use Rattle.track_life.proofs.Numbering.{bare_assigned}
use Rattle.slot_step.specs.Slots.{radar_limit, run}
use Rattle.slot_step.specs.Calls.{IsFromBefore, AreFromBefore}
use Rattle.slot_step.specs.Tracker.{tracking, ordered, numbering, run_tracks, step_tracks}
use Rattle.slot_step.proofs.Counted.{is_before, assigned_before}
use Rattle.slot_step.proofs.Interleavings.{all_weaker}
use Rattle.slot_step.proofs.Numbering.{numbers_stay}
use Rattle.slot_step.proofs.Slotted.{InSlot, currents, after}
use Rattle.slot_step.proofs.Tables.{run_before}
use Rattle.slot_step.proofs.Tracker.{tracks_ordered, tracks_numbered}

module _ (life : LifeSettings) (n : ℕ) (ts : List TrackState) (ps : List PlanePlot) (before : AreFromBefore n ts) (own : AllByRecursion (InSlot n) ps) (rise : IsStrictlySortedBy (λ p q. key_cmp p.key q.key) ps) where
  times : AllByRecursion (IsFromBefore (n + 1)) (run_tracks life ts n ps)
  unfolding run
  times = after n (run_tracks life ts n ps) (currents life n ts ps before own radar_limit)

  after_run : AreFromBefore (n + 1) (run_tracks life ts n ps)
  after_run = record { rising = (run_before (tracking life) (ordered life) (tracks_ordered life) ts n ps own rise (is_before life n ts before)).table; each = times }

  numbers_after : step_tracks life ts n ps ≡ assigned (run_tracks life ts n ps)
  numbers_after = numbers_stay (tracking life) (ordered life) (tracks_ordered life) (numbering assigned) (tracks_numbered life assigned bare_assigned) ts n ps (is_before life n ts before) own

  pub after_step : AreFromBefore (n + 1) (step_tracks life ts n ps)
  after_step = subst (AreFromBefore (n + 1)) (sym numbers_after) (assigned_before (n + 1) (run_tracks life ts n ps) after_run)

pub later_still : (a b : ℕ) (ts : List TrackState) → a ≤ b → AreFromBefore a ts → AreFromBefore b ts
later_still a b ts le h = record {
  rising = h.rising;
  each = all_weaker (IsFromBefore a) (IsFromBefore b) ts (λ t before. record { time = omega (arith, before.time, le); birth = omega (arith, before.birth, le) }) h.each;
}
