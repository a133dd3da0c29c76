-- What is folded of a span in parts is what the window is to place.
use Rattle.std.proofs.Common.{◌≡◌, ◌∙◌, ap, sym, subst, refl, ℕ, List, [], ◌∷◌, length, map, Option, Some, Vec, Global}
use Rattle.std.specs.Prelude.{◌↔◌, IfSome, IsSome}
use Rattle.plot_geometry.specs.declared.radars.RadarSettings.{RadarSettings}
use Rattle.plot_geometry.specs.Plots.{PlanePlot}
use Rattle.plot_geometry.specs.PlotOrder.{plot_cmp}
use Rattle.track_life.specs.declared.settings.LifeSettings.{LifeSettings}
use Rattle.track_life.specs.Tracks.{TrackState}
use Rattle.late_window.specs.Folding.{Rises, BeforeFirst, AreOutsOf, slots, states}
use Rattle.late_window.specs.Windows.{state_of, dirty_items, dirty_slots}
use Rattle.slot_step.specs.declared.certs.KeyedCert.{KeyedCert}
use Rattle.slot_step.specs.Calls.{AreFromBefore}
use Rattle.slot_step.specs.Told.{AreTold}
use Rattle.slot_step.specs.Tracker.{step_tracks}
use Rattle.track_parts.specs.Members.{Tracks}
use Rattle.track_parts.specs.Numbered.{living}
use Rattle.track_parts.specs.Tracking.{slot_of_plot, key_of_plot, AreCertified}
use Rattle.track_parts.specs.Tracking as parts
use Rattle.admission_log.specs.declared.entries.Entry.{Entry}
use Rattle.admission_log.specs.Entries.{slot_in}
use Rattle.admission_log.specs.EntryOrder.{entry_cmp}
use Rattle.tracker_fold.specs.declared.state.TrackerState.{TrackerState}
use Rattle.tracker_fold.specs.Keys.{key_in}
use Rattle.tracker_fold.specs.Spans.{AreAllPlots, AreWhole, with_table}
use Rattle.tracker_fold.specs.Steps.{next, planes, IsBefore, IsOut}
use Rattle.tracker_fold.proofs.Spanned.{slots_same, plots_rise, before_first, states_are, outs_are}
use Rattle.tracker_engine.specs.Engines.{EntryWindow}

-- ---- tracks that are run

module _ (life : LifeSettings) (start : List TrackState) (tracks : Tracks) (life_is : tracks.life ≡ life) (table_is : tracks.table ≡ start) (plots : List PlanePlot) where
  are : tracks ≡ living life start
  are = λ i. record { life = life_is i; table = table_is i }

  pub run_begins : BeforeFirst parts.IsBefore slot_of_plot (living life start) plots → BeforeFirst parts.IsBefore slot_of_plot tracks plots
  run_begins h = subst (λ (t : Tracks). BeforeFirst parts.IsBefore slot_of_plot t plots) (sym are) h

  pub runs_are : (runs : List Tracks) → runs ≡ states parts.next slot_of_plot tracks plots → runs ≡ states parts.next slot_of_plot (living life start) plots
  runs_are runs is = is ∙ ap (λ (t : Tracks). states parts.next slot_of_plot t plots) are

  pub told_are : (told : List (List KeyedCert)) → AreOutsOf parts.next slot_of_plot AreCertified tracks plots told → AreOutsOf parts.next slot_of_plot AreCertified (living life start) plots told
  told_are told h = subst (λ (t : Tracks). AreOutsOf parts.next slot_of_plot AreCertified t plots told) are h

-- ---- a span

first_run : (life : LifeSettings) (ts : List TrackState) (ps : List PlanePlot) → BeforeFirst (λ ts n. AreFromBefore n ts) slot_of_plot ts ps → BeforeFirst parts.IsBefore slot_of_plot (living life ts) ps
first_run life ts [] h = tt
first_run life ts (p ∷ ps) h = h

-- the span of a window up to a slot, all plots
pub record IsSpanOf (window : EntryWindow) (upto : ℕ) (state : TrackerState) (entries : List Entry) (plots : List PlanePlot) : Type 0 where
  pub state_is : state ≡ state_of window
  pub entries_are : entries ≡ dirty_items slot_in window upto
  pub rising : Rises entry_cmp key_in entries
  pub before : BeforeFirst IsBefore slot_in state entries
  pub all : AreAllPlots state.radars entries
  pub plots_are : plots ≡ planes state.radars entries

pub is_span : (window : EntryWindow) (upto : ℕ) (state : TrackerState) (entries : List Entry) (radars : List RadarSettings) (given : List Entry) (told : Option (Vec PlanePlot Global)) (made : Vec PlanePlot Global) (plots : List PlanePlot)
    → state ≡ state_of window → entries ≡ dirty_items slot_in window upto → Rises entry_cmp key_in entries → BeforeFirst IsBefore slot_in state entries
    → radars ≡ state.radars → given ≡ entries → IfSome told (λ v. v.items ≡ planes radars given) → IsSome told ↔ AreAllPlots radars given → told ≡ Some made → plots ≡ made.items
    → IsSpanOf window upto state entries plots
is_span window upto state entries radars given told made plots state_is entries_are rising before radars_are given_are planes_are all told_is plots_are = record {
  state_is = state_is;
  entries_are = entries_are;
  rising = rising;
  before = before;
  all = subst (λ (z : List RadarSettings × List Entry). AreAllPlots z.0 z.1) (λ i. (radars_are i, given_are i)) (all.0 (subst (λ (r : Option (Vec PlanePlot Global)). IsSome r) (sym told_is) refl));
  plots_are = plots_are ∙ subst (λ (r : Option (Vec PlanePlot Global)). IfSome r (λ v. v.items ≡ planes radars given)) told_is planes_are ∙ (λ i. planes (radars_are i) (given_are i));
}

module _ (window : EntryWindow) (upto : ℕ) (state : TrackerState) (entries : List Entry) (plots : List PlanePlot) (is : IsSpanOf window upto state entries plots) where
  pub span_rises : Rises plot_cmp key_of_plot plots
  span_rises = subst (Rises plot_cmp key_of_plot) (sym is.plots_are) (plots_rise state.radars entries is.rising)

  pub span_begins : BeforeFirst parts.IsBefore slot_of_plot (living state.life state.table) plots
  span_begins =
      subst (λ (ps : List PlanePlot). BeforeFirst parts.IsBefore slot_of_plot (living state.life state.table) ps) (sym is.plots_are)
      (first_run state.life state.table (planes state.radars entries) (before_first state entries is.all is.before))

  pub states_placed : (more : List TrackerState) → more ≡ map (with_table state) (states (step_tracks state.life) slot_of_plot state.table plots) → more ≡ states next slot_in (state_of window) (dirty_items slot_in window upto)
  states_placed more e =
      e ∙ ap (λ (ps : List PlanePlot). map (with_table state) (states (step_tracks state.life) slot_of_plot state.table ps)) is.plots_are
      ∙ sym (states_are state entries is.all) ∙ (λ i. states next slot_in (is.state_is i) (is.entries_are i))

  pub outs_placed : (outs : List (List KeyedCert)) → AreOutsOf (step_tracks state.life) slot_of_plot (AreTold state.life) state.table plots outs → AreWhole outs → AreOutsOf next slot_in IsOut (state_of window) (dirty_items slot_in window upto) outs
  outs_placed outs told whole =
      subst (λ (z : TrackerState × List Entry). AreOutsOf next slot_in IsOut z.0 z.1 outs) (λ i. (is.state_is i, is.entries_are i))
      (outs_are state entries is.all outs (subst (λ (ps : List PlanePlot). AreOutsOf (step_tracks state.life) slot_of_plot (AreTold state.life) state.table ps outs) is.plots_are told) whole)

  pub as_many_slots : length (slots slot_of_plot plots) ≡ length (dirty_slots slot_in window upto)
  as_many_slots = ap (λ (ps : List PlanePlot). length (slots slot_of_plot ps)) is.plots_are ∙ ap length (sym (slots_same state.radars entries is.all)) ∙ ap (λ (es : List Entry). length (slots slot_in es)) is.entries_are
