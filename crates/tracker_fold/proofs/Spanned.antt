-- Entries that are all plots of known radars are folded as their plots are.
use Rattle.std.proofs.Common.{◌≡◌, ◌∙◌, ap, sym, subst, refl, ℕ, zero, suc, ◌+◌, ◌<◌, true, List, [], ◌∷◌, ◌++◌, length, map, take, get_or, Option, Some, None, eqb, arith}
use Rattle.std.specs.Prelude.{IfSome, IsSome}
use Rattle.std.specs.List.{AllByRecursion, cons_option}
use Rattle.std.specs.List.Sorted.{IsStrictlySortedBy}
use Rattle.std.specs.declared.cmp.Ordering.{Ordering}
use Rattle.std.specs.declared.cmp.Ordering.TheVariants.{Less, Equal}
use Rattle.std.proofs.lemmas.Cmp.{tied_itself}
use Rattle.std.proofs.lemmas.List.{take_more}
use Rattle.trk_base.specs.Keys.{key_cmp}
use Rattle.trk_base.specs.KeyOrder.{key_cmp_total}
use Rattle.plot_geometry.specs.declared.radars.RadarSettings.{RadarSettings}
use Rattle.plot_geometry.specs.Plots.{PlanePlot}
use Rattle.plot_geometry.specs.PlotOrder.{plot_cmp, key_first}
use Rattle.price_form.specs.Certificates.{IsCert}
use Rattle.track_life.specs.declared.settings.LifeSettings.{LifeSettings}
use Rattle.track_life.specs.Tracks.{TrackState}
use Rattle.late_window.specs.Folding.{ComesBefore, Rises, at_slot, stepped, before, after, with_slot, slots, states, BeforeFirst, OutsAt, AreOutsOf}
use Rattle.late_window.proofs.Lists.{all_append, filter_keeps}
use Rattle.slot_step.specs.declared.certs.KeyedCert.{KeyedCert}
use Rattle.slot_step.specs.Calls.{AreFromBefore}
use Rattle.slot_step.specs.Told.{AreTold}
use Rattle.slot_step.specs.Tracker.{step_tracks}
use Rattle.slot_step.proofs.Interleavings.{all_of}
use Rattle.admission_log.specs.declared.entries.Entry.{Entry}
use Rattle.admission_log.specs.declared.entries.Entry.TheVariants.{Bias, Plot}
use Rattle.admission_log.specs.Entries.{slot_in}
use Rattle.admission_log.specs.EntryOrder.{entry_cmp}
use Rattle.tracker_fold.specs.declared.state.TrackerState.{TrackerState}
use Rattle.tracker_fold.specs.Folds.{slot_of_plot}
use Rattle.tracker_fold.specs.Keys.{key_in}
use Rattle.tracker_fold.specs.PlaneOrder.{HasKey, slot_is, own_key, planes_rise}
use Rattle.tracker_fold.specs.Spans.{AreAllPlots, AreWhole, with_table}
use Rattle.tracker_fold.specs.Steps.{plane, planes, radars_after, moved, next, IsBefore, IsOut}
use Rattle.tracker_fold.proofs.FilledSlots.{some, slots_only}
use Rattle.tracker_fold.proofs.Planes.{plots_at}

module _ (radars : List RadarSettings) where
  -- ---- slots

  first_slot : (e : Entry) (es : List Entry) → slots slot_in es ≡ slots slot_of_plot (planes radars es) → (x : Option PlanePlot) → IfSome x (HasKey e) → IsSome x
      → with_slot (slot_in e) (slots slot_in es) ≡ slots slot_of_plot (cons_option x (planes radars es))
  unfolding slots
  first_slot e es same None k s = absurd (cc)
  first_slot e es same (Some p) k s = λ i. with_slot (sym (slot_is e p k) i) (same i)

  pub slots_same : (es : List Entry) → AreAllPlots radars es → slots slot_in es ≡ slots slot_of_plot (planes radars es)
  unfolding slots
  slots_same [] h = refl
  slots_same (e ∷ es) h = first_slot e es (slots_same es h.1) (plane radars e) (own_key radars e) h.0

  -- ---- radars

  pub radars_kept : (es : List Entry) → AreAllPlots radars es → radars_after radars es ≡ radars
  unfolding radars_after
  radars_kept [] h = refl
  radars_kept (Bias slot place radar bias ∷ es) h = absurd (let none = h.0 in cc)
  radars_kept (Plot key raw ∷ es) h = radars_kept es h.1

  -- ---- one entry more

  pub all_more : (es : List Entry) (i : ℕ) (e : Entry) (p : PlanePlot) → i < length es → e ≡ get_or es i e → plane radars e ≡ Some p → AreAllPlots radars (take i es) → AreAllPlots radars (take (i + 1) es)
  all_more es i e p lt is told all =
      subst (AreAllPlots radars) (ap (λ x. take i es ++ x ∷ []) is ∙ sym (take_more es i e lt))
      (all_append (λ e. IsSome (plane radars e)) (take i es) (e ∷ []) all (subst (λ (x : Option PlanePlot). IsSome x) (sym told) refl, tt))

  all_at : (P : Entry → Type 0) (es : List Entry) (i : ℕ) (d : Entry) → i < length es → AllByRecursion P es → P (get_or es i d)
  all_at P [] i d lt h = absurd (omega (arith, lt))
  all_at P (e ∷ es) zero d lt h = h.0
  all_at P (e ∷ es) (suc i) d lt h = all_at P es i d (omega (arith, lt)) h.1

  pub not_all : (es : List Entry) (i : ℕ) (e : Entry) → i < length es → e ≡ get_or es i e → plane radars e ≡ None → AreAllPlots radars es → ⊥
  not_all es i e lt is told all =
      none_some (subst (λ (x : Option PlanePlot). IsSome x) (ap (plane radars) (sym is) ∙ told) (all_at (λ e. IsSome (plane radars e)) es i e lt all))
    where
      none_some : IsSome {T = PlanePlot} None → ⊥
      none_some h = cc

-- ---- order

comes_before : (p q : PlanePlot) → key_cmp p.key q.key ≡ Less → ComesBefore plot_cmp (λ (p : PlanePlot). p.key) p q
comes_before p q less = record { order = key_first p q (λ e. not_both _ e less) ∙ less; keys = λ e. not_both _ (tied_itself key_cmp_total p.key) (ap (key_cmp p.key) e ∙ less) }
  where
    not_both : (o : Ordering) → o ≡ Equal → o ≡ Less → ⊥
    not_both o e f = cc

all_before : (p : PlanePlot) (ps : List PlanePlot) → AllByRecursion (λ q. key_cmp p.key q.key ≡ Less) ps → AllByRecursion (ComesBefore plot_cmp (λ (p : PlanePlot). p.key) p) ps
all_before p [] h = tt
all_before p (q ∷ ps) h = (comes_before p q h.0, all_before p ps h.1)

keys_told : (ps : List PlanePlot) → IsStrictlySortedBy (λ p q. key_cmp p.key q.key) ps → Rises plot_cmp (λ (p : PlanePlot). p.key) ps
unfolding IsStrictlySortedBy
keys_told [] h = tt
keys_told (p ∷ ps) h = (all_before p ps h.0, keys_told ps h.1)

pub plots_rise : (radars : List RadarSettings) (es : List Entry) → Rises entry_cmp key_in es → Rises plot_cmp (λ (p : PlanePlot). p.key) (planes radars es)
plots_rise radars es h = keys_told (planes radars es) (planes_rise radars es h)

-- ---- one step

step_is : (t : TrackerState) (n : ℕ) (es : List Entry) → stepped next t n es ≡ moved t (radars_after t.radars es) n (planes (radars_after t.radars es) es)
unfolding next radars_after
step_is t n [] = refl
step_is t n (e ∷ es) = refl

next_is : (t : TrackerState) (n : ℕ) (es : List Entry) → next t n es ≡ moved t (radars_after t.radars es) n (planes (radars_after t.radars es) es)
unfolding next
next_is t n es = refl

step_filled : {S I : Type 0} (f : S → ℕ → List I → S) (s : S) (n : ℕ) (xs : List I) → some xs ≡ true → stepped f s n xs ≡ f s n xs
step_filled f s n [] h = absurd (cc)
step_filled f s n (x ∷ xs) h = refl

module _ (s : TrackerState) (es : List Entry) (all : AreAllPlots s.radars es) where
  abbrev plots : List PlanePlot
  plots = planes s.radars es

  abbrev entries_at : ℕ → List Entry
  entries_at n = at_slot slot_in n es

  -- the plots of a slot's entries, by the radars that hold then
  abbrev Plotted : List RadarSettings → ℕ → Type 0
  Plotted radars n = planes (radars_after radars (entries_at n)) (entries_at n) ≡ at_slot slot_of_plot n plots

  kept_at : (n : ℕ) → radars_after s.radars (entries_at n) ≡ s.radars
  kept_at n = radars_kept s.radars (entries_at n) (filter_keeps (λ e. IsSome (plane s.radars e)) (λ e. eqb (slot_in e) n) es all)

  plotted_at : (n : ℕ) → Plotted s.radars n
  plotted_at n = (λ i. planes (kept_at n i) (entries_at n)) ∙ sym (plots_at (plane s.radars) (own_key s.radars) n es)

  moved_is : (ts : List TrackState) (n : ℕ) → moved (with_table s ts) (radars_after s.radars (entries_at n)) n (planes (radars_after s.radars (entries_at n)) (entries_at n)) ≡ with_table s (stepped (step_tracks s.life) ts n (at_slot slot_of_plot n plots))
  moved_is ts n = λ i. moved (with_table s ts) (kept_at n i) n (plotted_at n i)

  -- ---- states

  pub before_is : (n : ℕ) → before next slot_in s es n ≡ with_table s (before (step_tracks s.life) slot_of_plot s.table plots n)
  unfolding before
  before_is zero = refl
  before_is (suc n) =
      ap (λ t. stepped next t n (entries_at n)) (before_is n)
      ∙ step_is (with_table s (before (step_tracks s.life) slot_of_plot s.table plots n)) n (entries_at n)
      ∙ moved_is (before (step_tracks s.life) slot_of_plot s.table plots n) n

  after_is : (n : ℕ) → some (at_slot slot_of_plot n plots) ≡ true → after next slot_in s es n ≡ with_table s (after (step_tracks s.life) slot_of_plot s.table plots n)
  unfolding after
  after_is n filled =
      ap (λ t. next t n (entries_at n)) (before_is n)
      ∙ next_is (with_table s (before (step_tracks s.life) slot_of_plot s.table plots n)) n (entries_at n)
      ∙ moved_is (before (step_tracks s.life) slot_of_plot s.table plots n) n
      ∙ ap (with_table s) (step_filled (step_tracks s.life) (before (step_tracks s.life) slot_of_plot s.table plots n) n (at_slot slot_of_plot n plots) filled)

  all_after : (ns : List ℕ) → AllByRecursion (λ n. some (at_slot slot_of_plot n plots) ≡ true) ns
      → map (after next slot_in s es) ns ≡ map (with_table s) (map (after (step_tracks s.life) slot_of_plot s.table plots) ns)
  all_after [] h = refl
  all_after (n ∷ ns) h = λ i. after_is n h.0 i ∷ all_after ns h.1 i

  pub states_are : states next slot_in s es ≡ map (with_table s) (states (step_tracks s.life) slot_of_plot s.table plots)
  states_are =
      ap (map (after next slot_in s es)) (slots_same s.radars es all)
      ∙ all_after (slots slot_of_plot plots) (all_of (λ n. some (at_slot slot_of_plot n plots) ≡ true) (slots slot_of_plot plots) (λ n c. slots_only slot_of_plot n plots c))

  -- ---- outs

  abbrev State : Type 0
  State = LifeSettings × (List TrackState × List PlanePlot)

  abbrev read : ℕ → TrackerState → State
  read n t = (t.life, (t.table, planes (radars_after t.radars (entries_at n)) (entries_at n)))

  abbrev folded : ℕ → List PlanePlot → State
  folded n ps = (s.life, (before (step_tracks s.life) slot_of_plot s.table plots n, ps))

  same_step : (n : ℕ) → read n (before next slot_in s es n) ≡ folded n (at_slot slot_of_plot n plots)
  same_step n = ap (read n) (before_is n) ∙ ap (folded n) (plotted_at n)

  out_at : (n : ℕ) (certs : List KeyedCert) → AreTold s.life (before (step_tracks s.life) slot_of_plot s.table plots n) n (at_slot slot_of_plot n plots) certs → AllByRecursion (λ c. IsCert c.cert) certs
      → IsOut (before next slot_in s es n) n (entries_at n) certs
  out_at n certs told whole = record { told = subst (λ (z : State). AreTold z.0 z.1.0 n z.1.1 certs) (sym (same_step n)) told; whole = whole }

  outs_at : (ns : List ℕ) (told : List (List KeyedCert)) → OutsAt (step_tracks s.life) slot_of_plot (AreTold s.life) s.table plots ns told → AreWhole told → OutsAt next slot_in IsOut s es ns told
  outs_at [] told o w = o
  outs_at (n ∷ ns) [] o w = absurd o
  outs_at (n ∷ ns) (certs ∷ told) o w = (out_at n certs o.0 w.0, outs_at ns told o.1 w.1)

  pub outs_are : (told : List (List KeyedCert)) → AreOutsOf (step_tracks s.life) slot_of_plot (AreTold s.life) s.table plots told → AreWhole told → AreOutsOf next slot_in IsOut s es told
  outs_are told o w = outs_at (slots slot_in es) told (subst (λ (ns : List ℕ). OutsAt (step_tracks s.life) slot_of_plot (AreTold s.life) s.table plots ns told) (sym (slots_same s.radars es all)) o) w

-- ---- the state before the first slot

first_before : (s : TrackerState) (e : Entry) (rest : List PlanePlot) (x : Option PlanePlot) → IfSome x (HasKey e) → IsSome x → IsBefore s (slot_in e) → BeforeFirst (λ ts n. AreFromBefore n ts) slot_of_plot s.table (cons_option x rest)
first_before s e rest None k some h = absurd (cc)
first_before s e rest (Some p) k some h = subst (λ n. AreFromBefore n s.table) (sym (slot_is e p k)) h

pub before_first : (s : TrackerState) (es : List Entry) → AreAllPlots s.radars es → BeforeFirst IsBefore slot_in s es → BeforeFirst (λ ts n. AreFromBefore n ts) slot_of_plot s.table (planes s.radars es)
before_first s [] all h = tt
before_first s (e ∷ es) all h = first_before s e (planes s.radars es) (plane s.radars e) (own_key s.radars e) all.0 h
