-- The filled slots of entries: those that are settled, and those that are to be folded.
use Rattle.std.proofs.Common.{◌≡◌, ◌≢◌, ap, sym, refl, subst, ℕ, ◌≤◌, ◌<◌, ◌⊎◌, inl, inr, Bool, true, false, eqb, ltb, leb, List, [], ◌∷◌, length, arith}
use Rattle.std.specs.Prelude.{filter, nat_lt, nat_le, not, ◌&&◌, ◌||◌}
use Rattle.std.specs.List.{AllByRecursion, list_all, list_any, flat_map, enumerate_from}
use Rattle.std.proofs.lemmas.Bool.{lt-ltb, ltb-true, le-leb, leb-true, eq-eqb, eqb-true, cases_lt, cond_both, and_parts}
use Rattle.std.proofs.lemmas.List.{take_all, drop_all}
use Rattle.std.proofs.lemmas.List.FromFn.{length-enumerate_from}
use Rattle.std.proofs.lemmas.List.Sorted.{IsPermutation-sym}
use Rattle.trk_base.specs.Numbers.{slot_of}
use Rattle.late_window.specs.Folding.{Rises, below, from, slots, with_slot}
use Rattle.late_window.specs.Windows.{folded, dirty_items, dirty_slots, is_folded}
use Rattle.late_window.proofs.Groups.{SlotsRise, slots_rise}
use Rattle.late_window.proofs.Cuts.{slots_all, below_rise, from_rise}
use Rattle.late_window.proofs.Lists.{all_weaker, all_append, all_left, all_right}
use Rattle.late_window.proofs.Orders.{rises_filter}
use Rattle.admission_log.specs.declared.events.Event.{Event}
use Rattle.admission_log.specs.declared.entries.Entry.{Entry}
use Rattle.admission_log.specs.Entries.{entries_in, entries_of, slot_in}
use Rattle.admission_log.specs.EntryOrder.{entry_cmp}
use Rattle.admission_log.specs.Histories.{History, first, last_of}
use Rattle.admission_log.proofs.Greatest.{Has, has_right, has_either, has_filtered, passes_filtered}
use Rattle.tracker_fold.specs.Keys.{key_in}
use Rattle.tracker_fold.specs.Laws.{in_order}
use Rattle.tracker_fold.specs.Folds.{AreEntriesOf, IsFilled}
use Rattle.tracker_engine.specs.Engines.{EntryWindow, with_events}
use Rattle.tracker_engine.specs.Spans.{entries_from, IsSettled, AreSettled, IsInSpan, AreSpan}
use Rattle.tracker_engine.proofs.Members.{has_of, of_has, has_moved, all_at, all_above, above_all, all_or, Rise, rise_of, of_rise, rise_filter, fewer}
use Rattle.tracker_engine.proofs.Entering.{new_entries, first_more, from_more, entries_cut}

-- ---- the filled slots of items

module _ {I : Type 0} (slot : I → ℕ) where
  rise_with : (n : ℕ) (ms : List ℕ) → AllByRecursion (λ m. n ≤ m) ms → Rise ms → Rise (with_slot n ms)
  rise_with n [] h up = (tt, tt)
  rise_with n (m ∷ ms) h up = cond_both (eqb n m) (m ∷ ms) (n ∷ m ∷ ms) Rise (λ same. up) (λ other. let lt : n < m = omega (arith, h.0, apart other) in ((lt, all_weaker (λ k. m < k) (λ k. n < k) (λ k g. omega (arith, lt, g)) ms up.0), up))
    where
      apart : eqb n m ≡ false → n ≢ m
      apart other e = let same : eqb n m ≡ true = eq-eqb n m e in absurd (cc)

  pub slots_up : (xs : List I) → SlotsRise slot xs → Rise (slots slot xs)
  unfolding slots
  slots_up [] h = tt
  slots_up (x ∷ xs) h = rise_with (slot x) (slots slot xs) (slots_all slot (λ m. slot x ≤ m) xs h.0) (slots_up xs h.1)

  has_with : (n k : ℕ) (ms : List ℕ) → Has k ms → Has k (with_slot n ms)
  has_with n k [] h = absurd h
  has_with n k (m ∷ ms) h = cond_both (eqb n m) (m ∷ ms) (n ∷ m ∷ ms) (Has k) (λ _. h) (λ _. inr h)

  has_own : (n : ℕ) (ms : List ℕ) → Has n (with_slot n ms)
  has_own n [] = inl refl
  has_own n (m ∷ ms) = cond_both (eqb n m) (m ∷ ms) (n ∷ m ∷ ms) (Has n) (λ same. inl (eqb-true n m same)) (λ _. inl refl)

  pub slot_there : (x : I) (xs : List I) → Has x xs → Has (slot x) (slots slot xs)
  unfolding slots
  slot_there x [] h = absurd h
  slot_there x (y ∷ xs) (inl e) = subst (λ n. Has n (with_slot (slot y) (slots slot xs))) (sym (ap slot e)) (has_own (slot y) (slots slot xs))
  slot_there x (y ∷ xs) (inr h) = has_with (slot y) (slot x) (slots slot xs) (slot_there x xs h)

  of_with : (n k : ℕ) (ms : List ℕ) → Has k (with_slot n ms) → (k ≡ n) ⊎ Has k ms
  of_with n k [] h = h
  of_with n k (m ∷ ms) h = cond_both (eqb n m) (m ∷ ms) (n ∷ m ∷ ms) (λ l. Has k l → (k ≡ n) ⊎ Has k (m ∷ ms)) (λ _ g. inr g) (λ _ g. g) h

  pub there_of : (n : ℕ) (xs : List I) → Has n (slots slot xs) → (x : I) × Has x xs × (slot x ≡ n)
  unfolding slots
  there_of n [] h = absurd h
  there_of n (x ∷ xs) h = elim (of_with (slot x) n (slots slot xs) h) [
    | inl e ↦ (x, inl refl, sym e)
    | inr g ↦ (let r = there_of n xs g in (r.0, inr r.1, r.2))
  ]

-- ---- settled slots stay as they are where later entries come above them

whole_first : (log : History) → first (length log.events) log ≡ log
whole_first log = ap (λ l. record { start = log.start; events = l }) (take_all (length log.events) log.events (omega arith))

none_from : (log : History) → entries_from (length log.events) log ≡ []
none_from log = ap (flat_map (λ at. entries_in at.0 at.1)) (drop_all (length log.events) (enumerate_from 0 log.events) (omega (arith, length-enumerate_from 0 log.events)))

-- where all events are settled, so is each slot that is filled and over
pub whole_settled : (log : History) (n : ℕ) → n < slot_of (last_of log) → IsFilled (entries_of log) n → IsSettled log (length log.events) n
whole_settled log n over filled = record {
  over = subst (λ l. n < slot_of (last_of l)) (sym (whole_first log)) over;
  filled = subst (λ l. IsFilled (entries_of l) n) (sym (whole_first log)) filled;
  later = subst (AllByRecursion (λ e. n < slot_in e)) (sym (none_from log)) tt;
}

pub settled_over : (log : History) (n : ℕ) → IsSettled log (length log.events) n → n < slot_of (last_of log)
settled_over log n is = subst (λ l. n < slot_of (last_of l)) (whole_first log) is.over

pub settled_filled : (log : History) (n : ℕ) → IsSettled log (length log.events) n → IsFilled (entries_of log) n
settled_filled log n is = subst (λ l. IsFilled (entries_of l) n) (whole_first log) is.filled

module _ (log : History) (es : List Event) (s : ℕ) (within : s ≤ length log.events) where
  grown_settled : (n : ℕ) → IsSettled log s n → AllByRecursion (λ e. n < slot_in e) (new_entries log es) → IsSettled (with_events log es) s n
  grown_settled n h new = record {
    over = subst (λ l. n < slot_of (last_of l)) (sym (first_more log es s within)) h.over;
    filled = subst (λ l. IsFilled (entries_of l) n) (sym (first_more log es s within)) h.filled;
    later = subst (AllByRecursion (λ e. n < slot_in e)) (sym (from_more log es s within)) (all_append (λ e. n < slot_in e) (entries_from s log) (new_entries log es) h.later new);
  }

  was_settled : (n : ℕ) → IsSettled (with_events log es) s n → IsSettled log s n × AllByRecursion (λ e. n < slot_in e) (new_entries log es)
  was_settled n h =
      let later = subst (AllByRecursion (λ e. n < slot_in e)) (from_more log es s within) h.later in (
        record {
          over = subst (λ l. n < slot_of (last_of l)) (first_more log es s within) h.over;
          filled = subst (λ l. IsFilled (entries_of l) n) (first_more log es s within) h.filled;
          later = all_left (λ e. n < slot_in e) (entries_from s log) (new_entries log es) later;
        },
        all_right (λ e. n < slot_in e) (entries_from s log) (new_entries log es) later,
      )

  pub still_settled : (low : ℕ) (ns : List ℕ) → AreSettled log s low ns → AreSettled (with_events log es) s low (filter (λ n. list_all (λ x. nat_lt n (slot_in x)) (new_entries log es)) ns)
  still_settled low ns h = record {
    rising = of_rise _ (rise_filter test ns (rise_of ns h.rising));
    all = λ n. (
      λ there. (let kept = passes_filtered test n ns (has_of n (filter test ns) there) in let is = (h.all n).0 (of_has n ns kept.0) in
          (is.0, grown_settled n is.1 (all_above slot_in n (new_entries log es) kept.1))),
      λ is. (let was = was_settled n is.1 in
          of_has n (filter test ns) (has_filtered test n ns (has_of n ns ((h.all n).1 (is.0, was.0))) (above_all slot_in n (new_entries log es) was.1))),
    );
  }
    where
      test : ℕ → Bool
      test n = list_all (λ x. nat_lt n (slot_in x)) (new_entries log es)

-- ---- what a window keeps of a log

module _ (log : History) (all : List Entry) (o : AreEntriesOf log all) (w : EntryWindow) (items : w.items ≡ from slot_in w.low all) where
  pub kept_in : (x : Entry) → Has x w.items → Has x (entries_of log) × (w.low ≤ slot_in x)
  kept_in x h =
      let kept = passes_filtered (λ y. nat_le w.low (slot_in y)) x all (subst (Has x) items h) in
      (has_moved x all (entries_of log) (IsPermutation-sym (entries_of log) all o.same) kept.0, leb-true w.low (slot_in x) kept.1)

  pub in_kept : (x : Entry) → Has x (entries_of log) → w.low ≤ slot_in x → Has x w.items
  in_kept x h le = subst (Has x) (sym items) (has_filtered (λ y. nat_le w.low (slot_in y)) x all (has_moved x (entries_of log) all o.same h) (le-leb w.low (slot_in x) le))

  items_up : SlotsRise slot_in w.items
  items_up = subst (SlotsRise slot_in) (sym items) (from_rise slot_in w.low all (slots_rise entry_cmp key_in slot_in in_order all o.rise))

  -- ---- all that is over is settled

  pub all_settled : (low : ℕ) → w.low ≤ low → AreSettled log (length log.events) low (filter (λ n. nat_le low n) (slots slot_in (below slot_in (slot_of (last_of log)) w.items)))
  all_settled low le = record {
    rising = of_rise _ (rise_filter (λ n. leb low n) _ (slots_up slot_in over (below_rise slot_in upto w.items items_up)));
    all = λ n. (λ there. to n (has_of n _ there), λ is. of_has n _ (back n is.0 is.1));
  }
    where
      upto : ℕ
      upto = slot_of (last_of log)

      over : List Entry
      over = below slot_in upto w.items

      to : (n : ℕ) → Has n (filter (λ n. leb low n) (slots slot_in over)) → (low ≤ n) × IsSettled log (length log.events) n
      to n h =
          let kept = passes_filtered (λ n. leb low n) n (slots slot_in over) h in
          let x = there_of slot_in n over kept.0 in
          let under = passes_filtered (λ y. ltb (slot_in y) upto) x.0 w.items x.1 in
          let lt : n < upto = subst (λ m. m < upto) x.2 (ltb-true (slot_in x.0) upto under.1) in (
            leb-true low n kept.1,
            whole_settled log n lt (record { entry = x.0; there = of_has x.0 (entries_of log) (kept_in x.0 under.0).0; of_slot = x.2 }),
          )

      back : (n : ℕ) → low ≤ n → IsSettled log (length log.events) n → Has n (filter (λ n. leb low n) (slots slot_in over))
      back n ge is =
          let filled = settled_filled log n is in
          let lt : n < upto = settled_over log n is in
          let e = filled.entry in
          let kept = in_kept e (has_of e (entries_of log) filled.there) (omega (arith, le, ge, filled.of_slot)) in
          let under : Has e over = has_filtered (λ y. ltb (slot_in y) upto) e w.items kept (lt-ltb (slot_in e) upto (omega (arith, lt, filled.of_slot))) in
          has_filtered (λ n. leb low n) n (slots slot_in over) (subst (λ m. Has m (slots slot_in over)) filled.of_slot (slot_there slot_in e over under)) (le-leb low n ge)

  -- ---- what isn't folded is of the span

  module _ (s : ℕ) (within : s ≤ length log.events) where
    in_span : (n : ℕ) → n < slot_of (last_of log) → IsFilled (entries_of log) n → (IsSettled log s n → ⊥) → IsInSpan log s n
    in_span n over filled open' = elim (cases_lt n (slot_of (last_of (first s log)))) [
      | inr le ↦ record { over = over; filled = filled; opening = n; opens = record { over = over; filled = filled; new = inl le }; from = omega arith }
      | inl lt ↦ (elim (all_or slot_in n (entries_from s log)) [
        | inr one ↦ reopened one.0 one.1 one.2
        | inl later ↦ absurd (elim (has_either filled.entry (entries_of (first s log)) (entries_from s log) (subst (Has filled.entry) (entries_cut log s within) (has_of filled.entry (entries_of log) filled.there))) [
          | inl early ↦ open' (record { over = lt; filled = record { entry = filled.entry; there = of_has filled.entry _ early; of_slot = filled.of_slot }; later = later })
          | inr late ↦ (let above : n < slot_in filled.entry = all_at (λ e. n < slot_in e) filled.entry (entries_from s log) later late in omega (arith, above, filled.of_slot))
        ])
      ])
    ]
      where
        reopened : (e : Entry) → Has e (entries_from s log) → slot_in e ≤ n → IsInSpan log s n
        reopened e h le =
            let there : Has e (entries_of log) = subst (Has e) (sym (entries_cut log s within)) (has_right e (entries_of (first s log)) (entries_from s log) h) in
            record {
              over = over;
              filled = filled;
              opening = slot_in e;
              opens = record {
                over = omega (arith, over, le);
                filled = record { entry = e; there = of_has e (entries_of log) there; of_slot = refl };
                new = inr (record { entry = e; there = of_has e (entries_from s log) h; of_slot = refl });
              };
              from = le;
            }

    not_folded : (n : ℕ) (ns : List ℕ) → list_any (λ m. eqb m n) ns ≡ false → Has n ns → ⊥
    not_folded n [] e h = h
    not_folded n (m ∷ ns) e (inl same) = let own : eqb m n ≡ true = eq-eqb m n (sym same) in let e' : (true || list_any (λ m. eqb m n) ns) ≡ false = subst (λ b. (b || list_any (λ m. eqb m n) ns) ≡ false) own e in absurd (cc)
    not_folded n (m ∷ ns) e (inr h) = not_folded n ns (rest (eqb m n) (list_any (λ m. eqb m n) ns) e) h
      where
        rest : (a b : Bool) → (a || b) ≡ false → b ≡ false
        rest true b e = absurd (cc)
        rest false b e = e

    -- no more slots are folded than the span has
    pub few_dirty : (spanned : List ℕ) → AreSettled log s w.low (folded w) → AreSpan log s spanned → length (dirty_slots slot_in w (slot_of (last_of log))) ≤ length spanned
    few_dirty spanned settled span =
        fewer (slots slot_in dirty) spanned (slots_up slot_in dirty (slots_rise entry_cmp key_in slot_in in_order dirty (rises_filter entry_cmp key_in test w.items rises))) (rise_of spanned span.rising) within_span
      where
        upto : ℕ
        upto = slot_of (last_of log)

        test : Entry → Bool
        test x = ltb (slot_in x) upto && not (is_folded w (slot_in x))

        dirty : List Entry
        dirty = dirty_items slot_in w upto

        rises : Rises entry_cmp key_in w.items
        rises = subst (Rises entry_cmp key_in) (sym items) (rises_filter entry_cmp key_in (λ y. leb w.low (slot_in y)) all o.rise)

        unfolded : (b : Bool) → not b ≡ true → b ≡ false
        unfolded true e = absurd (cc)
        unfolded false e = refl

        within_span : (n : ℕ) → Has n (slots slot_in dirty) → Has n spanned
        within_span n h =
            let x = there_of slot_in n dirty h in
            let kept = passes_filtered test x.0 w.items x.1 in
            let both = and_parts (ltb (slot_in x.0) upto) (not (is_folded w (slot_in x.0))) kept.1 in
            let lt : n < upto = subst (λ m. m < upto) x.2 (ltb-true (slot_in x.0) upto both.0) in
            let new : is_folded w n ≡ false = subst (λ m. is_folded w m ≡ false) x.2 (unfolded (is_folded w (slot_in x.0)) both.1) in
            let own = kept_in x.0 kept.0 in
            let ge : w.low ≤ n = subst (λ m. w.low ≤ m) x.2 own.1 in
            let filled : IsFilled (entries_of log) n = record { entry = x.0; there = of_has x.0 (entries_of log) own.0; of_slot = x.2 } in
            has_of n spanned ((span.all n).1 (in_span n lt filled (λ is. not_folded n (folded w) new (has_of n (folded w) ((settled.all n).1 (ge, is))))))
