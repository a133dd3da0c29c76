-- What an engine shows where all of its log is settled.
use Rattle.std.proofs.Common.{◌≡◌, ◌∙◌, ap, sym, refl, subst, ℕ, suc, ◌+◌, ◌^◌, ◌≤◌, ◌<◌, Bool, true, false, cond, eqb, leb, List, [], ◌∷◌, length, map, Some, Result, Ok, Err, arith}
use Rattle.std.specs.Prelude.{filter, nat_le, slice_get, flat_map, IfOk}
use Rattle.std.specs.Option.{option_map}
use Rattle.std.specs.List.{AllByRecursion, enumerate_from}
use Rattle.std.proofs.lemmas.Bool.{cond_both, eq-eqb, le-leb, leb-true}
use Rattle.std.proofs.lemmas.List.Folds.{flat_map-map}
use Rattle.std.proofs.lemmas.List.Sorted.{IsPermutation-sym}
use Rattle.trk_base.specs.declared.memory.NoMemory.{NoMemory}
use Rattle.trk_base.specs.Numbers.{slot_of}
use Rattle.plot_geometry.specs.declared.biases.Bias.{Bias}
use Rattle.plot_geometry.specs.declared.radars.RadarSettings.{RadarSettings}
use Rattle.plot_geometry.specs.Biases.{bias_of, biased}
use Rattle.price_form.specs.Certificates.{IsCert}
use Rattle.price_form.specs.declared.certs.Cert.{Cert}
use Rattle.late_window.specs.Folding.{at_slot, latest, OutsAt}
use Rattle.late_window.specs.Windows.{folded, state_of}
use Rattle.late_window.proofs.Cuts.{at_none}
use Rattle.late_window.proofs.Lists.{all_append}
use Rattle.slot_step.specs.declared.certs.KeyedCert.{KeyedCert}
use Rattle.admission_log.specs.declared.settings.Settings.{Settings}
use Rattle.admission_log.specs.declared.entries.Entry.{Entry}
use Rattle.admission_log.specs.Entries.{entries_of, slot_in}
use Rattle.admission_log.specs.Biases.{bias_at}
use Rattle.admission_log.specs.Histories.{History, last_of, low_at}
use Rattle.admission_log.proofs.Greatest.{Has, has_filtered, passes_filtered}
use Rattle.tracker_fold.specs.Starts.{start}
use Rattle.tracker_fold.specs.Steps.{next, radars_after, IsOut}
use Rattle.tracker_fold.specs.Folds.{AreFilledFrom, AreCertificatesFrom, IsFilled, state_before}
use Rattle.tracker_fold.proofs.Folded.{table_is, radars_next, radars_are}
use Rattle.tracker_fold.proofs.Certified.{certificates_are}
use Rattle.edition_form.specs.Folding.{table_of}
use Rattle.edition_form.specs.Radars.{biases_of}
use Rattle.edition_form.specs.Certificates.{AreLogCertificates}
use Rattle.tracker_engine.specs.Counts.{IsCertificateCount}
use Rattle.tracker_engine.specs.Engines.{EngineState, StandsFor}
use Rattle.tracker_engine.proofs.Members.{has_of, of_has, has_moved, all_of, rise_of, of_rise, rise_filter}
use Rattle.tracker_engine.proofs.Slots.{whole_settled, settled_over, settled_filled}
use Rattle.tracker_engine.proofs.States.{slot_from, IsBetween, latest_is}

some_there : {X : Type 0} (x : X) (xs : List X) → Has x xs → 0 < length xs
some_there x [] h = absurd h
some_there x (y ∷ xs) h = omega arith

-- ---- biases, from radars that have them

same_biases : (b : Bias → ℕ → Bias) (k : ℕ) (rs qs : List RadarSettings) → ((i : ℕ) → slice_get rs i ≡ option_map (λ r. biased r (b (bias_of r) (k + i))) (slice_get qs i)) → map bias_of rs ≡ map (λ at. b (bias_of at.1) at.0) (enumerate_from k qs)
same_biases b k [] [] h = refl
same_biases b k [] (q ∷ qs) h = absurd (let e = h 0 in cc)
same_biases b k (r ∷ rs) [] h = absurd (let e = h 0 in cc)
same_biases b k (r ∷ rs) (q ∷ qs) h =
    λ i. own (h 0) i ∷ same_biases b (k + 1) rs qs (λ j. h (suc j) ∙ ap (λ n. option_map (λ r. biased r (b (bias_of r) n)) (slice_get qs j)) (next_index j)) i
  where
    next_index : (j : ℕ) → k + suc j ≡ k + 1 + j
    next_index j = omega arith

    own : Some r ≡ Some (biased q (b (bias_of q) (k + 0))) → bias_of r ≡ b (bias_of q) k
    own e = let same : r ≡ biased q (b (bias_of q) (k + 0)) = cc in let none : k + 0 ≡ k = omega arith in ap bias_of same ∙ ap (b (bias_of q)) none

-- ---- outs of the slots that pass a test

module _ {O : Type 0} (p : ℕ → Bool) where
  slots_kept : (os : List (ℕ × O)) → map (λ o. o.0) (filter (λ o. p o.0) os) ≡ filter p (map (λ o. o.0) os)
  slots_kept [] = refl
  slots_kept (o ∷ os) = elim (p o.0) as (λ b. map (λ o. o.0) (cond b (o ∷ filter (λ o. p o.0) os) (filter (λ o. p o.0) os)) ≡ cond b (o.0 ∷ filter p (map (λ o. o.0) os)) (filter p (map (λ o. o.0) os))) [
    | true ↦ ap (λ (l : List ℕ). o.0 ∷ l) (slots_kept os)
    | false ↦ slots_kept os
  ]

outs_kept : (p : ℕ → Bool) (settings : Settings) (all : List Entry) (os : List (ℕ × List KeyedCert)) → OutsAt next slot_in IsOut (start settings) all (map (λ o. o.0) os) (map (λ o. o.1) os)
    → OutsAt next slot_in IsOut (start settings) all (map (λ o. o.0) (filter (λ o. p o.0) os)) (map (λ o. o.1) (filter (λ o. p o.0) os))
outs_kept p settings all [] h = refl
outs_kept p settings all (o ∷ os) h =
    elim (p o.0) as (λ b. OutsAt next slot_in IsOut (start settings) all (map (λ o. o.0) (cond b (o ∷ filter (λ o. p o.0) os) (filter (λ o. p o.0) os))) (map (λ o. o.1) (cond b (o ∷ filter (λ o. p o.0) os) (filter (λ o. p o.0) os)))) [
      | true ↦ (h.0, outs_kept p settings all os h.1)
      | false ↦ outs_kept p settings all os h.1
    ]

-- ---- each certificate is whole

few_whole : (cs : List KeyedCert) → AllByRecursion (λ c. IsCert c.cert) cs → AllByRecursion IsCert (map (λ k. k.cert) cs)
few_whole [] h = tt
few_whole (c ∷ cs) h = (h.0, few_whole cs h.1)

all_whole : (p : ℕ → Bool) (settings : Settings) (all : List Entry) (os : List (ℕ × List KeyedCert)) → OutsAt next slot_in IsOut (start settings) all (map (λ o. o.0) os) (map (λ o. o.1) os)
    → AllByRecursion IsCert (flat_map (λ o. map (λ k. k.cert) o.1) (filter (λ o. p o.0) os))
all_whole p settings all [] h = tt
all_whole p settings all (o ∷ os) h =
    cond_both (p o.0) (o ∷ filter (λ o. p o.0) os) (filter (λ o. p o.0) os) (λ l. AllByRecursion IsCert (flat_map (λ o. map (λ k. k.cert) o.1) l))
    (λ _. all_append IsCert (map (λ k. k.cert) o.1) (flat_map (λ o. map (λ k. k.cert) o.1) (filter (λ o. p o.0) os)) (few_whole o.1 h.0.whole) (all_whole p settings all os h.1))
    (λ _. all_whole p settings all os h.1)

module _ (settings : Settings) (log : History) (before : ℕ) (e : EngineState) (s : StandsFor settings log (length log.events) before e) where
  abbrev now : ℕ
  now = slot_of (last_of log)

  abbrev all : List Entry
  all = s.entries.all

  in_all : (x : Entry) → Has x (entries_of log) → Has x all
  in_all x h = has_moved x (entries_of log) all s.entries.in_order.same h

  of_all : (x : Entry) → Has x all → Has x (entries_of log)
  of_all x h = has_moved x all (entries_of log) (IsPermutation-sym (entries_of log) all s.entries.in_order.same) h

  filled_at : (n : ℕ) → IsFilled (entries_of log) n → 0 < length (at_slot slot_in n all)
  filled_at n f = some_there f.entry (at_slot slot_in n all) (has_filtered (λ x. eqb (slot_in x) n) f.entry all (in_all f.entry (has_of f.entry (entries_of log) f.there)) (eq-eqb (slot_in f.entry) n f.of_slot))

  low_le : e.window.low ≤ now
  low_le = omega (arith, s.low)

  pub last_state : state_of e.window ≡ state_before settings all now
  last_state =
      (λ i. latest (s.entries.base i) (s.entries.states i))
      ∙ latest_is slot_in next (start settings) all (folded e.window) e.window.low now low_le (rise_of (folded e.window) s.folded_are.rising) between empty
    where
      between : AllByRecursion (IsBetween slot_in next (start settings) all e.window.low now) (folded e.window)
      between = all_of (IsBetween slot_in next (start settings) all e.window.low now) (folded e.window) (λ n h. let is = (s.folded_are.all n).0 (of_has n (folded e.window) h) in (is.0, settled_over log n is.1, filled_at n (settled_filled log n is.1)))

      empty : (n : ℕ) → e.window.low ≤ n → n < now → (Has n (folded e.window) → ⊥) → at_slot slot_in n all ≡ []
      empty n ge lt none = at_none slot_in n all (all_of (λ x. slot_in x ≡ n → ⊥) all (λ x h own. none (has_of n (folded e.window) ((s.folded_are.all n).1 (ge, whole_settled log n lt (record { entry = x; there = of_has x (entries_of log) (of_all x h); of_slot = own }))))))

  pub table_shown : (state_of e.window).table ≡ table_of settings log
  table_shown = ap (λ t. t.table) last_state ∙ table_is settings log all s.entries.in_order now (omega arith)

  pub biases_shown : map bias_of (radars_after (state_of e.window).radars (at_slot slot_in (slot_of e.last) e.window.items)) ≡ biases_of settings log
  biases_shown =
      (λ i. map bias_of (radars_after (last_state i).radars (at_slot slot_in (slot_of (s.last_is i)) (s.entries.items i))))
      ∙ ap (λ l. map bias_of (radars_after (state_before settings all now).radars l)) (slot_from slot_in e.window.low now all low_le)
      ∙ ap (map bias_of) (sym (radars_next settings all now))
      ∙ same_biases (λ own radar. bias_at log own radar now) 0 (state_before settings all (now + 1)).radars settings.radars (λ i. radars_are settings log all s.entries.in_order now i ∙ ap (λ n. option_map (λ r. biased r (bias_at log (bias_of r) n now)) (slice_get settings.radars i)) (none i))
    where
      none : (i : ℕ) → i ≡ 0 + i
      none i = omega arith

  are_filled : AreFilledFrom log (low_at settings.window (last_of log)) (filter (nat_le (low_at settings.window (last_of log))) (folded e.window))
  are_filled = record {
    rising = of_rise _ (rise_filter test (folded e.window) (rise_of (folded e.window) s.folded_are.rising));
    all = λ n. (
      λ there. (let kept = passes_filtered test n (folded e.window) (has_of n _ there) in let is = (s.folded_are.all n).0 (of_has n (folded e.window) kept.0) in
          (leb-true low n kept.1, settled_over log n is.1, settled_filled log n is.1)),
      λ is. of_has n _ (has_filtered test n (folded e.window) (has_of n (folded e.window) ((s.folded_are.all n).1 (omega (arith, s.low, is.0), whole_settled log n is.1 is.2))) (le-leb low n is.0)),
    );
  }
    where
      low : ℕ
      low = low_at settings.window (last_of log)

      test : ℕ → Bool
      test n = leb low n

  pub certs_shown : (certs : List Cert) → certs ≡ flat_map (λ o. map (λ k. k.cert) o.1) (filter (λ o. nat_le (low_at e.settings.window e.last) o.0) e.window.outs) → AreLogCertificates settings log certs
  certs_shown certs is =
      record { by_slot = found.by_slot; each = found.each; all = all_is ∙ found.all; few_edges = subst (AllByRecursion (λ c. length c.costs.edges < 2 ^ 32)) (sym all_is) found.few_edges }
    where
      low : ℕ
      low = low_at settings.window (last_of log)

      kept : List (ℕ × List KeyedCert)
      kept = filter (λ o. nat_le low o.0) e.window.outs

      found : AreCertificatesFrom settings log low (map (λ o. o.1) kept)
      found = certificates_are settings log all s.entries.in_order low (filter (nat_le low) (folded e.window)) are_filled (map (λ o. o.1) kept)
          (subst (λ ns. OutsAt next slot_in IsOut (start settings) all ns (map (λ o. o.1) kept)) (slots_kept (nat_le low) e.window.outs) (outs_kept (nat_le low) settings all e.window.outs s.entries.outs))

      all_is : certs ≡ flat_map (map (λ k. k.cert)) (map (λ o. o.1) kept)
      all_is = is ∙ (λ i. flat_map (λ o. map (λ k. k.cert) o.1) (filter (λ o. nat_le (low_at ((s.settings_are i).window) (s.last_is i)) o.0) e.window.outs)) ∙ sym (flat_map-map (map (λ k. k.cert)) (λ o. o.1) kept)

  pub certs_whole : (certs : List Cert) → certs ≡ flat_map (λ o. map (λ k. k.cert) o.1) (filter (λ o. nat_le (low_at e.settings.window e.last) o.0) e.window.outs) → AllByRecursion IsCert certs
  certs_whole certs is = subst (AllByRecursion IsCert) (sym is) (all_whole (nat_le (low_at e.settings.window e.last)) settings all e.window.outs s.entries.outs)

  pub certs_counted : (low : ℕ) (outs : List (ℕ × List KeyedCert)) → low ≡ low_at e.settings.window e.last → outs ≡ e.window.outs
      → (r : Result ℕ NoMemory) → IfOk r (λ n. n ≡ length (flat_map (λ o. map (λ k. k.cert) o.1) (filter (λ o. nat_le low o.0) outs))) → IfOk r (IsCertificateCount settings log)
  certs_counted low outs low_is outs_is (Err x) h = tt
  certs_counted low outs low_is outs_is (Ok n) h =
      let certs = flat_map (λ o. map (λ k. k.cert) o.1) (filter (λ o. nat_le (low_at e.settings.window e.last) o.0) e.window.outs) in
      record { certs = certs; certificates = certs_shown certs refl; count_is = h ∙ (λ i. length (flat_map (λ o. map (λ k. k.cert) o.1) (filter (λ o. nat_le (low_is i) o.0) (outs_is i)))) }
