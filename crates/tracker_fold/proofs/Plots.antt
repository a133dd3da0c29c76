-- The plots of a log, by its entries.
use Rattle.std.proofs.Common.{◌≡◌, ◌∙◌, ap, sym, refl, ℕ, ◌+◌, ◌<◌, Bool, true, false, cond, List, [], ◌∷◌, ◌++◌, map, Option, Some, None, arith}
use Rattle.std.specs.Prelude.{IfSome, slice_get, filter_map, sum_by, nat_lt}
use Rattle.std.specs.Option.{option_map}
use Rattle.std.specs.List.{AllByRecursion, cons_option, flat_map, enumerate_from}
use Rattle.std.specs.List.Sorted.{IsStrictlySortedBy}
use Rattle.std.specs.Ordering.{is_lt, ordering_then, ordering_reverse}
use Rattle.std.specs.declared.cmp.Ordering.{Ordering}
use Rattle.std.specs.declared.cmp.Ordering.TheVariants.{Less}
use Rattle.std.proofs.lemmas.Bool.{lt-ltb}
use Rattle.std.proofs.lemmas.List.Elements.{filter_map-append}
use Rattle.std.proofs.lemmas.List.Sorted.{sum_by-IsPermutation}
use Rattle.std.proofs.lemmas.List.Sums.{sum_by-append}
use Rattle.trk_base.specs.Keys.{key_cmp}
use Rattle.trk_base.specs.Numbers.{slot_of}
use Rattle.plot_geometry.specs.declared.radars.RadarSettings.{RadarSettings}
use Rattle.plot_geometry.specs.Plots.{PlanePlot}
use Rattle.plot_geometry.specs.PlanePlots.{plane_plot}
use Rattle.plot_geometry.specs.PlotOrder.{plot_cmp, plot_cmp_total}
use Rattle.late_window.specs.Folding.{InSlot}
use Rattle.admission_log.specs.declared.settings.Settings.{Settings}
use Rattle.admission_log.specs.declared.events.Admitted.{Admitted}
use Rattle.admission_log.specs.declared.events.Event.{Event}
use Rattle.admission_log.specs.declared.events.Event.TheVariants as events
use Rattle.admission_log.specs.declared.entries.Entry.{Entry}
use Rattle.admission_log.specs.declared.entries.Entry.TheVariants.{Bias, Plot}
use Rattle.admission_log.specs.Histories.{History, last_of, admitted_in}
use Rattle.admission_log.specs.Entries.{plot_entry, entries_in, entries_of, slot_in}
use Rattle.admission_log.specs.Biases.{radar_among}
use Rattle.admission_log.specs.Plots.{plot_over, plots_over, plots_of}
use Rattle.admission_log.proofs.Rising as rising
use Rattle.tracker_fold.specs.Steps.{plane, planes}
use Rattle.tracker_fold.specs.Folds.{AreEntriesOf}
use Rattle.tracker_fold.specs.PlaneOrder.{HasKey, keys_rise}
use Rattle.tracker_fold.proofs.SameOrder.{one_order}

-- ---- sums over what is given

abbrev given_sum : {X : Type 0} (h : X → Option PlanePlot) (f : PlanePlot → ℕ) → X → ℕ
given_sum h f x = sum_by f (cons_option (h x) [])

only : {X : Type 0} (f : X → ℕ) (x : X) → sum_by f (x ∷ []) ≡ f x
only f x = omega arith

sums : {X : Type 0} (h : X → Option PlanePlot) (f : PlanePlot → ℕ) (xs : List X) → sum_by f (filter_map h xs) ≡ sum_by (given_sum h f) xs
sums h f [] = refl
sums {X} h f (x ∷ xs) =
    let first : (o : Option PlanePlot) → sum_by f (cons_option o (filter_map h xs)) ≡ sum_by f (cons_option o []) + sum_by f (filter_map h xs) =
    λ o. elim o as (λ o. sum_by f (cons_option o (filter_map h xs)) ≡ sum_by f (cons_option o []) + sum_by f (filter_map h xs)) [ None ↦ omega arith | Some p ↦ sum_by-append f (p ∷ []) (filter_map h xs) ] in
    let more : sum_by (given_sum h f) (x ∷ xs) ≡ sum_by (given_sum h f) (x ∷ []) + sum_by (given_sum h f) xs = sum_by-append (given_sum h f) (x ∷ []) xs in
    let one : sum_by (given_sum h f) (x ∷ []) ≡ given_sum h f x = only (given_sum h f) x in
    first (h x) ∙ ap (λ n. given_sum h f x + n) (sums h f xs) ∙ sym (more ∙ ap (λ n. n + sum_by (given_sum h f) xs) one)

-- ---- in rising key

first_less : (a b : Ordering) → a ≡ Less → ordering_then a b ≡ Less
first_less a b e = rw e refl

by_key : (p q : PlanePlot) → key_cmp p.key q.key ≡ Less → is_lt (plot_cmp q p) ≡ false
by_key p q less = ap is_lt (plot_cmp_total.antisymm q p ∙ ap ordering_reverse (first_less (key_cmp p.key q.key) _ less))

rises : (ps : List PlanePlot) → IsStrictlySortedBy (λ p q. key_cmp p.key q.key) ps → rising.Rises ps
unfolding IsStrictlySortedBy
rises [] h = tt
rises (p ∷ ps) h = (none ps h.0, rises ps h.1)
  where
    none : (qs : List PlanePlot) → AllByRecursion (λ q. key_cmp p.key q.key ≡ Less) qs → rising.AreNotBelow p qs
    none [] h = tt
    none (q ∷ qs) h = (by_key p q h.0, none qs h.1)

module _ (settings : Settings) (log : History) where
  -- an entry's plot in the plane by the log's biases, if its slot is over
  abbrev pub shown : Entry → Option PlanePlot
  shown (Bias slot place radar bias) = None
  shown (Plot key raw) = cond (nat_lt key.slot (slot_of (last_of log))) (option_map (λ r. plane_plot r raw key) (radar_among settings (entries_of log) key.radar key.slot)) None

  pub own_key : (e : Entry) → IfSome (shown e) (HasKey e)
  unfolding plane_plot
  own_key (Bias slot place radar bias) = tt
  own_key (Plot key raw) = at (nat_lt key.slot (slot_of (last_of log))) (radar_among settings (entries_of log) key.radar key.slot)
    where
      at : (b : Bool) (r : Option RadarSettings) → IfSome (cond b (option_map (λ r. plane_plot r raw key) r) None) (λ p. p.key ≡ key)
      at true None = tt
      at true (Some r) = refl
      at false r = tt

  mapped : (admitted : List Admitted) → filter_map shown (map plot_entry admitted) ≡ filter_map (plot_over settings (entries_of log) (last_of log)) admitted
  mapped [] = refl
  mapped (a ∷ more) = ap (cons_option (plot_over settings (entries_of log) (last_of log) a)) (mapped more)

  of_event : (index : ℕ) (e : Event) → filter_map shown (entries_in index e) ≡ filter_map (plot_over settings (entries_of log) (last_of log)) (admitted_in e)
  of_event index (events.Deliver feed admitted told other) = mapped admitted
  of_event index (events.Tick time) = refl
  of_event index (events.Publish number cut) = refl
  of_event index (events.Bias radar slot bias) = refl

  of_events : (index : ℕ) (es : List Event) → filter_map shown (flat_map (λ at. entries_in at.0 at.1) (enumerate_from index es)) ≡ filter_map (plot_over settings (entries_of log) (last_of log)) (flat_map admitted_in es)
  of_events index [] = refl
  of_events index (e ∷ es) =
      filter_map-append shown (entries_in index e) (flat_map (λ at. entries_in at.0 at.1) (enumerate_from (index + 1) es))
      ∙ (λ i. of_event index e i ++ of_events (index + 1) es i)
      ∙ sym (filter_map-append (plot_over settings (entries_of log) (last_of log)) (admitted_in e) (flat_map admitted_in es))

  -- the plots of a log are those of its entries
  pub plots_shown : (all : List Entry) → AreEntriesOf log all → filter_map shown all ≡ plots_of settings log
  plots_shown all o =
      let alike : rising.Alike (filter_map shown all) (plots_of settings log) = record {
        sums = λ f.
            sums shown f all
            ∙ sum_by-IsPermutation (given_sum shown f) (entries_of log) all o.same
            ∙ sym (sums shown f (entries_of log))
            ∙ ap (sum_by f) (of_events 0 log.events)
            ∙ sym (sum_by-IsPermutation f (plots_over settings log) (plots_of settings log) (rising.all_move (plots_over settings log)));
      } in
      one_order (filter_map shown all) (plots_of settings log) (rises _ (keys_rise shown own_key all o.rise)) (rising.all_rise (plots_over settings log)) alike

  -- those of a slot that is over, by radars with the slot's biases
  module _ (n : ℕ) (over : n < slot_of (last_of log)) (radars : List RadarSettings) (are : (radar : ℕ) → slice_get radars radar ≡ radar_among settings (entries_of log) radar n) where
    one_shown : (e : Entry) → slot_in e ≡ n → plane radars e ≡ shown e
    one_shown (Bias slot place radar bias) h = refl
    one_shown (Plot key raw) h =
        ap (option_map (λ r. plane_plot r raw key)) (are key.radar ∙ ap (radar_among settings (entries_of log) key.radar) (sym h))
        ∙ rw (lt-ltb key.slot (slot_of (last_of log)) (omega (arith, over, h))) refl

    pub all_shown : (es : List Entry) → InSlot slot_in n es → planes radars es ≡ filter_map shown es
    all_shown [] h = refl
    all_shown (e ∷ es) h = λ i. cons_option (one_shown e h.0 i) (all_shown es h.1 i)
