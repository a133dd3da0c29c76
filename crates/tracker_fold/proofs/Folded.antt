-- The fold of a log's entries is that of its plots.
use Rattle.std.proofs.Common.{◌≡◌, ◌∙◌, ap, sym, subst, refl, ℕ, zero, suc, ◌+◌, ◌<◌, ◌≤◌, true, eqb, ltb, List, [], ◌∷◌, ◌++◌, map, Option, Some, None, arith, inl, inr}
use Rattle.std.specs.Prelude.{slice_get, fold, nat_le}
use Rattle.std.specs.Option.{option_map}
use Rattle.std.specs.List.{AllByRecursion}
use Rattle.std.proofs.lemmas.Bool.{cases_order, lt-ltb, le-ltb, le-leb, lt-leb, eq-eqb, ne_eqb, eqb-true, cases_lt}
use Rattle.std.proofs.lemmas.List.Sums.{fold-append}
use Rattle.trk_base.specs.Numbers.{slot_of}
use Rattle.trk_base.specs.declared.keys.Key.{Key}
use Rattle.plot_geometry.specs.declared.radars.RadarSettings.{RadarSettings}
use Rattle.plot_geometry.specs.Biases.{bias_of, biased}
use Rattle.plot_geometry.specs.Plots.{PlanePlot}
use Rattle.track_life.specs.declared.settings.LifeSettings.{LifeSettings}
use Rattle.track_life.specs.Tracks.{TrackState}
use Rattle.late_window.specs.Folding.{InSlot, at_slot, below, from, before, stepped}
use Rattle.late_window.proofs.Groups.{SlotsRise, slots_rise}
use Rattle.late_window.proofs.Lists.{all_weaker, filter_same, filter_passing}
use Rattle.late_window.proofs.Cuts.{cut_at, below_below, below_rise}
use Rattle.slot_step.specs.declared.certs.KeyedCert.{KeyedCert}
use Rattle.slot_step.specs.Certificates.{Certificate, IsCertificateIn}
use Rattle.slot_step.specs.Tracker.{step_tracks, tracking, ordered}
use Rattle.slot_step.specs.Told.{AreTold, told}
use Rattle.admission_log.specs.declared.settings.Settings.{Settings}
use Rattle.admission_log.specs.declared.entries.Entry.{Entry}
use Rattle.admission_log.specs.Histories.{History, last_of}
use Rattle.admission_log.specs.Entries.{entries_of, slot_in}
use Rattle.admission_log.specs.EntryOrder.{entry_cmp}
use Rattle.admission_log.specs.Biases.{radar_among, bias_among}
use Rattle.admission_log.specs.Plots.{plots_of}
use Rattle.tracker_fold.specs.declared.state.TrackerState.{TrackerState}
use Rattle.tracker_fold.specs.Keys.{key_in}
use Rattle.tracker_fold.specs.Laws.{in_order}
use Rattle.tracker_fold.specs.Steps.{changed, radars_after, planes, next, IsOut}
use Rattle.tracker_fold.specs.Folds.{AreEntriesOf, state_before, slot_of_plot, tracks_before}
use Rattle.tracker_fold.proofs.Greatest.{bias_stays}
use Rattle.tracker_fold.proofs.Held.{held, all_changed, bias_held}
use Rattle.tracker_fold.proofs.Planes.{plots_at}
use Rattle.tracker_fold.proofs.Plots.{shown, own_key, plots_shown, all_shown}

-- ---- one slot more

module _ {I : Type 0} (slot : I → ℕ) where
  top : (n : ℕ) (xs : List I) → from slot n (below slot (suc n) xs) ≡ at_slot slot n xs
  top n [] = refl
  top n (x ∷ xs) = elim (cases_order (slot x) n) [
    | inl e ↦ rw (lt-ltb (slot x) (suc n) (omega (arith, e)), eq-eqb (slot x) n e) (rw (le-leb n (slot x) (omega (arith, e))) (ap (λ (l : List I). x ∷ l) (top n xs)))
    | inr other ↦ elim other [
      | inl lt ↦ rw (lt-ltb (slot x) (suc n) (omega (arith, lt)), ne_eqb (slot x) n (λ e. omega (arith, lt, e))) (rw (lt-leb n (slot x) lt) (top n xs))
      | inr gt ↦ rw (le-ltb (slot x) (suc n) (omega (arith, gt)), ne_eqb (slot x) n (λ e. omega (arith, gt, e))) (top n xs)
    ]
  ]

  below_more : (n : ℕ) (xs : List I) → SlotsRise slot xs → below slot (suc n) xs ≡ below slot n xs ++ at_slot slot n xs
  below_more n xs r = cut_at slot n (below slot (suc n) xs) (below_rise slot (suc n) xs r) ∙ (λ i. below_below slot n (suc n) xs (omega arith) i ++ top n xs i)

  none_below : (xs : List I) → below slot 0 xs ≡ []
  none_below [] = refl
  none_below (x ∷ xs) = rw (le-ltb (slot x) 0 (omega arith)) (none_below xs)

  at_is : (n : ℕ) (xs : List I) → InSlot slot n (at_slot slot n xs)
  at_is n xs = all_weaker (λ x. eqb (slot x) n ≡ true) (λ x. slot x ≡ n) (λ x t. eqb-true (slot x) n t) (at_slot slot n xs) (filter_passing (λ x. eqb (slot x) n) xs)

same_test : (a n : ℕ) → nat_le a n ≡ ltb a (suc n)
same_test a n = elim (cases_lt n a) [
  | inl lt ↦ rw (lt-leb a n lt, le-ltb a (suc n) (omega (arith, lt))) refl
  | inr le ↦ rw (le-leb a n le, lt-ltb a (suc n) (omega (arith, le))) refl
]

all_tests : (n : ℕ) (es : List Entry) → AllByRecursion (λ e. nat_le (slot_in e) n ≡ ltb (slot_in e) (suc n)) es
all_tests n [] = tt
all_tests n (e ∷ es) = (same_test (slot_in e) n, all_tests n es)

-- ---- the parts of a state after a slot, be it filled or not

life_stays : (s : TrackerState) (n : ℕ) (es : List Entry) → (stepped next s n es).life ≡ s.life
unfolding next
life_stays s n [] = refl
life_stays s n (e ∷ es) = refl

radars_move : (s : TrackerState) (n : ℕ) (es : List Entry) → (stepped next s n es).radars ≡ radars_after s.radars es
unfolding next radars_after
radars_move s n [] = refl
radars_move s n (e ∷ es) = refl

table_moves : (s : TrackerState) (n : ℕ) (es : List Entry) → (stepped next s n es).table ≡ stepped (step_tracks s.life) s.table n (planes (radars_after s.radars es) es)
unfolding next
table_moves s n [] = refl
table_moves s n (e ∷ es) = refl

pub life_is : (settings : Settings) (all : List Entry) (n : ℕ) → (state_before settings all n).life ≡ settings.life
unfolding before
life_is settings all zero = refl
life_is settings all (suc n) = life_stays (state_before settings all n) n (at_slot slot_in n all) ∙ life_is settings all n

pub radars_next : (settings : Settings) (all : List Entry) (n : ℕ) → (state_before settings all (n + 1)).radars ≡ radars_after (state_before settings all n).radars (at_slot slot_in n all)
unfolding before
radars_next settings all n =
    let e : n + 1 ≡ suc n = omega arith in
    ap (λ m. (state_before settings all m).radars) e ∙ radars_move (state_before settings all n) n (at_slot slot_in n all)

-- ---- a log

module _ (settings : Settings) (log : History) (all : List Entry) (o : AreEntriesOf log all) where
  rise : SlotsRise slot_in all
  rise = slots_rise entry_cmp key_in slot_in in_order all o.rise

  radars_before : (n : ℕ) → (state_before settings all n).radars ≡ fold changed settings.radars (below slot_in n all)
  unfolding before radars_after
  radars_before zero = sym (ap (fold changed settings.radars) (none_below slot_in all))
  radars_before (suc n) =
      radars_move (state_before settings all n) n (at_slot slot_in n all)
      ∙ ap (λ rs. fold changed rs (at_slot slot_in n all)) (radars_before n)
      ∙ sym (fold-append changed settings.radars (below slot_in n all) (at_slot slot_in n all))
      ∙ ap (fold changed settings.radars) (sym (below_more slot_in n all rise))

  bias_is : (own : _) (radar n : ℕ) → held radar own (below slot_in (suc n) all) ≡ bias_among (entries_of log) own radar n
  bias_is own radar n =
      ap (held radar own) (sym (filter_same (λ e. nat_le (slot_in e) n) (λ e. ltb (slot_in e) (suc n)) all (all_tests n all)))
      ∙ sym (bias_held radar n all own o.rise) ∙ sym (bias_stays (entries_of log) all o.same own radar n)

  after_slot : (n radar : ℕ) → slice_get (state_before settings all (suc n)).radars radar ≡ radar_among settings (entries_of log) radar n
  after_slot n radar =
      ap (λ rs. slice_get rs radar) (radars_before (suc n)) ∙ all_changed settings.radars (below slot_in (suc n) all) radar ∙ of (slice_get settings.radars radar)
    where
      of : (r : Option RadarSettings) → option_map (λ r. biased r (held radar (bias_of r) (below slot_in (suc n) all))) r ≡ option_map (λ r. biased r (bias_among (entries_of log) (bias_of r) radar n)) r
      of None = refl
      of (Some r) = ap (λ b. Some (biased r b)) (bias_is (bias_of r) radar n)

  pub radars_are : (n radar : ℕ) → slice_get (state_before settings all (n + 1)).radars radar ≡ radar_among settings (entries_of log) radar n
  radars_are n radar = let e : suc n ≡ n + 1 = omega arith in ap (λ m. slice_get (state_before settings all m).radars radar) (sym e) ∙ after_slot n radar

  pub radars_below : (n : ℕ) → (state_before settings all n).radars ≡ radars_after settings.radars (below slot_in n all)
  unfolding radars_after
  radars_below n = radars_before n

  abbrev own_radars : ℕ → List RadarSettings
  own_radars n = radars_after (state_before settings all n).radars (at_slot slot_in n all)

  slot_radars : (n radar : ℕ) → slice_get (own_radars n) radar ≡ radar_among settings (entries_of log) radar n
  unfolding before
  slot_radars n radar = ap (λ rs. slice_get rs radar) (sym (radars_move (state_before settings all n) n (at_slot slot_in n all))) ∙ after_slot n radar

  -- the plots of a slot that is over are the log's
  pub planes_are : (n : ℕ) → n < slot_of (last_of log) → planes (own_radars n) (at_slot slot_in n all) ≡ at_slot slot_of_plot n (plots_of settings log)
  planes_are n over =
      all_shown settings log n over (own_radars n) (slot_radars n) (at_slot slot_in n all) (at_is slot_in n all)
      ∙ sym (plots_at (shown settings log) (own_key settings log) n all)
      ∙ ap (at_slot slot_of_plot n) (plots_shown settings log all o)

  pub table_is : (n : ℕ) → n ≤ slot_of (last_of log) → (state_before settings all n).table ≡ tracks_before settings log n
  unfolding before
  table_is zero le = refl
  table_is (suc n) le =
      table_moves (state_before settings all n) n (at_slot slot_in n all)
      ∙ (λ i. stepped (step_tracks (life_is settings all n i)) (table_is n (omega (arith, le)) i) n (planes_are n (omega (arith, le)) i))

  pub out_is : (n : ℕ) → n < slot_of (last_of log) → (certs : List KeyedCert) → IsOut (state_before settings all n) n (at_slot slot_in n all) certs → AreTold settings.life (tracks_before settings log n) n (at_slot slot_of_plot n (plots_of settings log)) certs
  out_is n over certs h =
      subst (λ (z : LifeSettings × (List TrackState × List PlanePlot)). AreTold z.0 z.1.0 n z.1.1 certs) (λ i. (life_is settings all n i, (table_is n (omega (arith, over)) i, planes_are n over i))) h.told

-- ---- no plots have no certificates

no_plot : (life : LifeSettings) (ts : List TrackState) (n : ℕ) (certs : List KeyedCert) → AreTold life ts n [] certs → certs ≡ []
no_plot life ts n certs h = h.all ∙ ap (map told) (none h.certificates h.are.each)
  where
    none : (cs : List (Certificate PlanePlot Key)) → AllByRecursion (IsCertificateIn (tracking life) (ordered life) ts n []) cs → cs ≡ []
    none [] all = refl
    none (c ∷ cs) all = absurd (let joined = (all.0.plots_are c.first).0 (0, omega arith, refl) in let in_none = joined.known in omega (arith, in_none.1))

pub out_none : (settings : Settings) (log : History) (all : List Entry) → AreEntriesOf log all → (n : ℕ) → n < slot_of (last_of log) → (certs : List KeyedCert) → IsOut (state_before settings all n) n (at_slot slot_in n all) certs
    → at_slot slot_of_plot n (plots_of settings log) ≡ [] → certs ≡ []
out_none settings log all o n over certs h e =
    no_plot settings.life (tracks_before settings log n) n certs (subst (λ (ps : List PlanePlot). AreTold settings.life (tracks_before settings log n) n ps certs) e (out_is settings log all o n over certs h))
