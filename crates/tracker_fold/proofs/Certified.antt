-- The certificates of a log, by the certificates of its entries' slots.
use Rattle.std.proofs.Common.{◌≡◌, ◌∙◌, ap, sym, subst, refl, ℕ, ◌<◌, ◌≤◌, ◌^◌, Bool, true, false, cond, List, [], ◌∷◌, ◌++◌, map, length, Option, Some, None, inl, inr}
use Rattle.std.specs.Prelude.{filter, nat_le, nat_lt, Contains, IfSome, filter_map}
use Rattle.std.specs.List.{AllByRecursion, flat_map, cons_option}
use Rattle.std.specs.List.Sorted.{IsStrictlySortedBy}
use Rattle.std.specs.Ordering.{nat_cmp, ordering_then}
use Rattle.std.specs.declared.cmp.Ordering.TheVariants.{Less}
use Rattle.std.proofs.lemmas.Bool.{leb-true, le-leb, ltb-true}
use Rattle.std.proofs.lemmas.List.Kept.{IsStrictlyIncreasing-filter}
use Rattle.std.proofs.lemmas.List.Sorted.{IsPermutation-sym, Contains-permutation}
use Rattle.trk_base.specs.Keys.{key_cmp}
use Rattle.trk_base.specs.Numbers.{slot_of}
use Rattle.plot_geometry.specs.Plots.{PlanePlot}
use Rattle.price_form.specs.Certificates.{IsCert}
use Rattle.price_form.specs.declared.certs.Cert.{Cert}
use Rattle.late_window.specs.Folding.{at_slot, slots, OutsAt}
use Rattle.late_window.specs.SlotFirst.{slot_first}
use Rattle.late_window.proofs.Groups.{SlotsRise}
use Rattle.slot_step.specs.declared.certs.KeyedCert.{KeyedCert}
use Rattle.slot_step.specs.Told.{AreTold}
use Rattle.slot_step.specs.Tracker.{step_tracks}
use Rattle.slot_step.proofs.Interleavings.{contains_first, contains_later, contains_cons, contains_none, in_filter, filter_passes, all_of, all_weaker, all_append}
use Rattle.admission_log.specs.declared.settings.Settings.{Settings}
use Rattle.admission_log.specs.declared.entries.Entry.{Entry}
use Rattle.admission_log.specs.declared.entries.Entry.TheVariants.{Bias, Plot}
use Rattle.admission_log.specs.Histories.{History, last_of}
use Rattle.admission_log.specs.Entries.{entries_of, slot_in}
use Rattle.admission_log.specs.Plots.{plots_of}
use Rattle.tracker_fold.specs.Starts.{start}
use Rattle.tracker_fold.specs.Steps.{next, IsOut}
use Rattle.tracker_fold.specs.Folds.{AreEntriesOf, slot_of_plot, tracks_before, IsFilled, AreFilledFrom, AreCertificatesFrom}
use Rattle.tracker_fold.specs.PlaneOrder.{HasKey, keys_rise, slot_is}
use Rattle.tracker_fold.proofs.FilledSlots.{some, filtered, same_rising, slots_increase, slots_have, slots_only, taken}
use Rattle.tracker_fold.proofs.Folded.{out_is, out_none}
use Rattle.tracker_fold.proofs.Plots.{shown, own_key, plots_shown}

-- the plots of a list don't fall in slot where their keys rise
slots_of_keys : (ps : List PlanePlot) → IsStrictlySortedBy (λ p q. key_cmp p.key q.key) ps → SlotsRise slot_of_plot ps
unfolding IsStrictlySortedBy
slots_of_keys [] h = tt
slots_of_keys (p ∷ ps) h =
    (all_weaker (λ q. key_cmp p.key q.key ≡ Less) (λ q. slot_of_plot p ≤ slot_of_plot q) ps (λ q less. slot_first slot_of_plot (λ p q. ordering_then (nat_cmp p.key.radar q.key.radar) (ordering_then (nat_cmp p.key.time q.key.time) (nat_cmp p.key.arrival q.key.arrival))) p q less) h.0, slots_of_keys ps h.1)

-- the entry that gives a plot
record IsGiven (f : Entry → Option PlanePlot) (es : List Entry) (p : PlanePlot) : Type 0 where
  pub entry : Entry
  pub there : Contains es entry
  pub gives : f entry ≡ Some p

given : (f : Entry → Option PlanePlot) (p : PlanePlot) (es : List Entry) → Contains (filter_map f es) p → IsGiven f es p
given f p [] c = contains_none p c
given f p (e ∷ es) c = of (f e) refl c (given f p es)
  where
    more : IsGiven f es p → IsGiven f (e ∷ es) p
    more g = record { entry = g.entry; there = contains_later e g.entry es g.there; gives = g.gives }

    of : (x : Option PlanePlot) → f e ≡ x → Contains (cons_option x (filter_map f es)) p → (Contains (filter_map f es) p → IsGiven f es p) → IsGiven f (e ∷ es) p
    of None is d rest = more (rest d)
    of (Some q) is d rest = elim (contains_cons q p (filter_map f es) d) [
      | inl same ↦ record { entry = e; there = contains_first e e es refl; gives = is ∙ ap Some same }
      | inr later ↦ more (rest later)
    ]

passes : (b : Bool) (x : Option PlanePlot) (p : PlanePlot) → cond b x None ≡ Some p → b ≡ true
passes true x p e = refl
passes false x p e = absurd (cc)

module _ (settings : Settings) (log : History) where
  -- its slot is over
  is_over : (e : Entry) (p : PlanePlot) → shown settings log e ≡ Some p → slot_in e < slot_of (last_of log)
  is_over (Bias slot place radar bias) p h = absurd (cc)
  is_over (Plot key raw) p h = ltb-true key.slot (slot_of (last_of log)) (passes (nat_lt key.slot (slot_of (last_of log))) _ p h)

  own_slot : (e : Entry) (p : PlanePlot) → shown settings log e ≡ Some p → slot_of_plot p ≡ slot_in e
  own_slot e p h = slot_is e p (subst (λ x. IfSome x (HasKey e)) h (own_key settings log e))

  module _ (all : List Entry) (o : AreEntriesOf log all) where
    -- whether a slot has plots
    abbrev has : ℕ → Bool
    has n = some (at_slot slot_of_plot n (plots_of settings log))

    plots_rise : SlotsRise slot_of_plot (plots_of settings log)
    plots_rise = subst (SlotsRise slot_of_plot) (plots_shown settings log all o) (slots_of_keys _ (keys_rise (shown settings log) (own_key settings log) all o.rise))

    -- the filled slots that have plots are the slots of the plots
    kept_are : (low : ℕ) (ns : List ℕ) → AreFilledFrom log low ns → filter has ns ≡ filter (nat_le low) (slots slot_of_plot (plots_of settings log))
    kept_are low ns h =
        let plots = plots_of settings log in
        same_rising (filter has ns) (filter (nat_le low) (slots slot_of_plot plots)) (IsStrictlyIncreasing-filter has ns h.rising) (IsStrictlyIncreasing-filter (nat_le low) (slots slot_of_plot plots) (slots_increase slot_of_plot plots plots_rise))
        (λ z c.
        let there = (h.all z).0 (in_filter has z ns c) in
        filtered (nat_le low) z (slots slot_of_plot plots) (le-leb low z there.0) (slots_have slot_of_plot z plots (filter_passes has z ns c)))
        (λ z c.
        let some_plot = slots_only slot_of_plot z plots (in_filter (nat_le low) z (slots slot_of_plot plots) c) in
        let plot = taken slot_of_plot z plots some_plot in
        let from = given (shown settings log) plot.item all (subst (λ (ps : List PlanePlot). Contains ps plot.item) (sym (plots_shown settings log all o)) plot.there) in
        let slot : slot_in from.entry ≡ z = sym (own_slot from.entry plot.item from.gives) ∙ plot.of_slot in
        let over = is_over from.entry plot.item from.gives in
        let filled : IsFilled (entries_of log) z = record { entry = from.entry; there = Contains-permutation all (entries_of log) from.entry (IsPermutation-sym (entries_of log) all o.same) from.there; of_slot = slot } in
        filtered has z ns some_plot ((h.all z).1 (leb-true low z (filter_passes (nat_le low) z (slots slot_of_plot plots) c), subst (λ n. n < slot_of (last_of log)) slot over, filled)))

    -- ---- what is told in slots with plots

    picked : List ℕ → List (List KeyedCert) → List (List KeyedCert)
    picked [] css = []
    picked (n ∷ ns) [] = []
    picked (n ∷ ns) (cs ∷ css) = cond (has n) (cs ∷ picked ns css) (picked ns css)

    abbrev Told : List ℕ → List (List KeyedCert) → Type 0
    Told ns css = OutsAt (step_tracks settings.life) slot_of_plot (AreTold settings.life) [] (plots_of settings log) ns css

    abbrev Outs : List ℕ → List (List KeyedCert) → Type 0
    Outs ns css = OutsAt next slot_in IsOut (start settings) all ns css

    one_told : (n : ℕ) (ns : List ℕ) (cs : List KeyedCert) (css : List (List KeyedCert)) → AreTold settings.life (tracks_before settings log n) n (at_slot slot_of_plot n (plots_of settings log)) cs → Told ns css → (b : Bool) → Told (cond b (n ∷ ns) ns) (cond b (cs ∷ css) css)
    one_told n ns cs css h rest true = (h, rest)
    one_told n ns cs css h rest false = rest

    all_told : (ns : List ℕ) (css : List (List KeyedCert)) → AllByRecursion (λ n. n < slot_of (last_of log)) ns → Outs ns css → Told (filter has ns) (picked ns css)
    unfolding picked
    all_told [] css over h = refl
    all_told (n ∷ ns) [] over h = absurd h
    all_told (n ∷ ns) (cs ∷ css) over h = one_told n (filter has ns) cs (picked ns css) (out_is settings log all o n over.0 cs h.0) (all_told ns css over.1 h.1) (has n)

    none_at : (n : ℕ) → has n ≡ false → at_slot slot_of_plot n (plots_of settings log) ≡ []
    none_at n h = of (at_slot slot_of_plot n (plots_of settings log)) h
      where
        of : (ps : List PlanePlot) → some ps ≡ false → ps ≡ []
        of [] h = refl
        of (p ∷ ps) h = absurd (cc)

    certs_kept : (cs : List KeyedCert) (css kept : List (List KeyedCert)) (b : Bool) → (b ≡ false → cs ≡ []) → flat_map (map (λ k. k.cert)) css ≡ flat_map (map (λ k. k.cert)) kept
        → map (λ k. k.cert) cs ++ flat_map (map (λ k. k.cert)) css ≡ flat_map (map (λ k. k.cert)) (cond b (cs ∷ kept) kept)
    certs_kept cs css kept true none same = ap (λ (ks : List Cert). map (λ k. k.cert) cs ++ ks) same
    certs_kept cs css kept false none same = ap (λ (cs : List KeyedCert). map (λ k. k.cert) cs ++ flat_map (map (λ k. k.cert)) css) (none refl) ∙ same

    all_kept : (ns : List ℕ) (css : List (List KeyedCert)) → AllByRecursion (λ n. n < slot_of (last_of log)) ns → Outs ns css → flat_map (map (λ k. k.cert)) css ≡ flat_map (map (λ k. k.cert)) (picked ns css)
    unfolding picked
    all_kept [] css over h = ap (flat_map (map (λ k. k.cert))) h
    all_kept (n ∷ ns) [] over h = absurd h
    all_kept (n ∷ ns) (cs ∷ css) over h = certs_kept cs css (picked ns css) (has n) (λ e. out_none settings log all o n over.0 cs h.0 (none_at n e)) (all_kept ns css over.1 h.1)

    few : (cs : List KeyedCert) → AllByRecursion (λ c. IsCert c.cert) cs → AllByRecursion (λ c. length c.costs.edges < 2 ^ 32) (map (λ k. k.cert) cs)
    few [] h = tt
    few (c ∷ cs) h = (h.0.few_edges, few cs h.1)

    all_few : (ns : List ℕ) (css : List (List KeyedCert)) → Outs ns css → AllByRecursion (λ c. length c.costs.edges < 2 ^ 32) (flat_map (map (λ k. k.cert)) css)
    all_few [] css h = subst (λ (css : List (List KeyedCert)). AllByRecursion (λ c. length c.costs.edges < 2 ^ 32) (flat_map (map (λ k. k.cert)) css)) (sym h) tt
    all_few (n ∷ ns) [] h = absurd h
    all_few (n ∷ ns) (cs ∷ css) h = all_append (λ c. length c.costs.edges < 2 ^ 32) (map (λ k. k.cert) cs) (flat_map (map (λ k. k.cert)) css) (few cs h.0.whole) (all_few ns css h.1)

    over_all : (low : ℕ) (ns : List ℕ) → AreFilledFrom log low ns → AllByRecursion (λ n. n < slot_of (last_of log)) ns
    over_all low ns h = all_of (λ n. n < slot_of (last_of log)) ns (λ n c. ((h.all n).0 c).1)

    pub certificates_are : (low : ℕ) (ns : List ℕ) → AreFilledFrom log low ns → (css : List (List KeyedCert)) → Outs ns css → AreCertificatesFrom settings log low css
    certificates_are low ns h css outs = record {
      by_slot = picked ns css;
      each = subst (λ (ms : List ℕ). Told ms (picked ns css)) (kept_are low ns h) (all_told ns css (over_all low ns h) outs);
      all = all_kept ns css (over_all low ns h) outs;
      few_edges = all_few ns css outs;
    }
