-- The plots that a list of entries gives, in one slot and with one entry more.
use Rattle.std.proofs.Common.{◌≡◌, ◌∙◌, ap, sym, refl, ℕ, ◌+◌, ◌<◌, Bool, true, false, cond, eqb, List, [], ◌∷◌, ◌++◌, length, take, get_or, append-nil, Option, Some, None}
use Rattle.std.specs.Prelude.{IfSome, filter_map}
use Rattle.std.specs.List.{cons_option}
use Rattle.std.proofs.lemmas.List.{take_more}
use Rattle.std.proofs.lemmas.List.Elements.{filter_map-append}
use Rattle.plot_geometry.specs.declared.radars.RadarSettings.{RadarSettings}
use Rattle.plot_geometry.specs.Plots.{PlanePlot}
use Rattle.late_window.specs.Folding.{at_slot}
use Rattle.admission_log.specs.declared.entries.Entry.{Entry}
use Rattle.admission_log.specs.Entries.{slot_in}
use Rattle.tracker_fold.specs.Steps.{plane, planes}
use Rattle.tracker_fold.specs.Folds.{slot_of_plot}
use Rattle.tracker_fold.specs.PlaneOrder.{HasKey, slot_is}

module _ (f : Entry → Option PlanePlot) (own : (e : Entry) → IfSome (f e) (HasKey e)) where
  given : (e : Entry) (rest : List Entry) (b : Bool) (x : Option PlanePlot) → f e ≡ x → cond b (cons_option x (filter_map f rest)) (filter_map f rest) ≡ filter_map f (cond b (e ∷ rest) rest)
  given e rest true x is = ap (λ x. cons_option x (filter_map f rest)) (sym is)
  given e rest false x is = refl

  either : (ps : List PlanePlot) (b : Bool) → ps ≡ cond b ps ps
  either ps true = refl
  either ps false = refl

  with_first : (n : ℕ) (e : Entry) (es : List Entry) → at_slot slot_of_plot n (filter_map f es) ≡ filter_map f (at_slot slot_in n es) → (x : Option PlanePlot) → f e ≡ x → IfSome x (HasKey e)
      → at_slot slot_of_plot n (cons_option x (filter_map f es)) ≡ filter_map f (cond (eqb (slot_in e) n) (e ∷ at_slot slot_in n es) (at_slot slot_in n es))
  with_first n e es same None is k = same ∙ either (filter_map f (at_slot slot_in n es)) (eqb (slot_in e) n) ∙ given e (at_slot slot_in n es) (eqb (slot_in e) n) None is
  with_first n e es same (Some p) is k = (λ i. cond (eqb (slot_is e p k i) n) (p ∷ same i) (same i)) ∙ given e (at_slot slot_in n es) (eqb (slot_in e) n) (Some p) is

  -- those of one slot are given by the entries of that slot
  pub plots_at : (n : ℕ) (es : List Entry) → at_slot slot_of_plot n (filter_map f es) ≡ filter_map f (at_slot slot_in n es)
  plots_at n [] = refl
  plots_at n (e ∷ es) = with_first n e es (plots_at n es) (f e) refl (own e)

module _ (radars : List RadarSettings) where
  -- one entry more
  pub one_more : (es : List Entry) (i : ℕ) (e : Entry) (p : PlanePlot) (old new : List PlanePlot) → i < length es → e ≡ get_or es i e → plane radars e ≡ Some p → old ≡ planes radars (take i es) → new ≡ old ++ p ∷ [] → new ≡ planes radars (take (i + 1) es)
  one_more es i e p old new lt is told before pushed =
      pushed ∙ (λ j. before j ++ cons_option (sym told j) []) ∙ sym (filter_map-append (plane radars) (take i es) (e ∷ [])) ∙ ap (planes radars) (ap (λ x. take i es ++ x ∷ []) is ∙ sym (take_more es i e lt))

  pub none_more : (es : List Entry) (i : ℕ) (e : Entry) (old : List PlanePlot) → i < length es → e ≡ get_or es i e → plane radars e ≡ None → old ≡ planes radars (take i es) → old ≡ planes radars (take (i + 1) es)
  none_more es i e old lt is told before =
      sym (append-nil old) ∙ (λ j. before j ++ cons_option (sym told j) []) ∙ sym (filter_map-append (plane radars) (take i es) (e ∷ [])) ∙ ap (planes radars) (ap (λ x. take i es ++ x ∷ []) is ∙ sym (take_more es i e lt))
