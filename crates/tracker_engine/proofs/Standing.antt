-- What an engine stands for after it took in events, and after it was settled.
use Rattle.std.proofs.Common.{◌≡◌, ◌∙◌, ap, sym, subst, ℕ, ◌+◌, ◌≤◌, cond, eqb, List, [], ◌++◌, length, Option, arith, length-append}
use Rattle.std.specs.Prelude.{filter, nat_lt, nat_le, fold}
use Rattle.std.specs.List.{AllByRecursion, list_all}
use Rattle.std.specs.List.Sorted.{IsPermutation}
use Rattle.std.proofs.lemmas.List.{take_all}
use Rattle.std.proofs.lemmas.List.Sorted.{IsPermutation-trans, IsPermutation-append_comm}
use Rattle.trk_base.specs.Numbers.{slot_of}
use Rattle.late_window.specs.Folding.{below, slots}
use Rattle.late_window.specs.Windows as windows
use Rattle.late_window.specs.Windows.{folded, dirty_slots, AreNew}
use Rattle.admission_log.specs.declared.settings.Settings.{Settings}
use Rattle.admission_log.specs.declared.events.Event.{Event}
use Rattle.admission_log.specs.declared.entries.Entry.{Entry}
use Rattle.admission_log.specs.Entries.{entries_of, slot_in, HaveOwnKeys}
use Rattle.admission_log.specs.EntryOrder.{entry_cmp}
use Rattle.admission_log.specs.Histories.{History, first, last_of, low_at}
use Rattle.admission_log.specs.Legality.{IsLegal}
use Rattle.admission_log.proofs.Prefixes.{last_prefix}
use Rattle.admission_log.proofs.OwnKeys.{own_keys}
use Rattle.tracker_fold.specs.Keys.{key_in}
use Rattle.tracker_fold.specs.Starts.{start}
use Rattle.tracker_fold.specs.Steps.{next, IsOut}
use Rattle.edition_form.specs.Datagrams.{shown_of}
use Rattle.tracker_engine.specs.Engines.{EngineState, EntryWindow, StandsFor, with_events}
use Rattle.tracker_engine.specs.Hearing.{noted}
use Rattle.tracker_engine.specs.Spans.{AreSettled, AreSpan}
use Rattle.tracker_engine.proofs.Entering.{new_entries, entries_more, first_more, all_open, are_new}
use Rattle.tracker_engine.proofs.Hearing.{all_noted}
use Rattle.tracker_engine.proofs.Slots.{still_settled, all_settled, few_dirty, kept_in}

-- the window's entries, whatever their order
abbrev pub Keeps : Settings → List Entry → EntryWindow → Type 0
Keeps settings h w = windows.StandsFor next IsOut slot_in entry_cmp key_in (start settings) h w

in_any_order : (settings : Settings) (h h' : List Entry) (w : EntryWindow) → IsPermutation h' h → Keeps settings h w → Keeps settings h' w
in_any_order settings h h' w moved k = record {
  all = k.all;
  in_order = record { same = IsPermutation-trans h' h k.all moved k.in_order.same; rise = k.in_order.rise };
  base = k.base;
  items = k.items;
  states = k.states;
  outs = k.outs;
}

last_rises : (log : History) (es : List Event) → last_of log ≤ last_of (with_events log es)
last_rises log es =
    let same : first (length log.events) (with_events log es) ≡ log = first_more log es (length log.events) (omega arith) ∙ ap (λ l. record { start = log.start; events = l }) (take_all (length log.events) log.events (omega arith)) in
    subst (λ h. last_of h ≤ last_of (with_events log es)) same (last_prefix (with_events log es) (length log.events))

-- ---- more events

module _ (settings : Settings) (log : History) (settled before : ℕ) (e : EngineState) (s : StandsFor settings log settled before e) (es : List Event) (legal : IsLegal settings (with_events log es)) where
  -- their entries may come, and are new
  pub come_open : AllByRecursion (λ x. e.window.low ≤ slot_in x) (new_entries log es)
  come_open = all_open settings log es e.window.low legal s.low

  pub come_new : AreNew key_in e.window.items (new_entries log es)
  come_new =
      let own : HaveOwnKeys (entries_of log ++ new_entries log es) = subst HaveOwnKeys (entries_more log es) (own_keys settings (with_events log es) legal) in
      are_new (entries_of log) (new_entries log es) e.window.items own (λ x h. (kept_in log s.entries.all s.entries.in_order e.window s.entries.items x h).0)

  pub absorbed : (last count : ℕ) (services : List (Option ℕ)) (w : EntryWindow)
      → Keeps settings (new_entries log es ++ entries_of log) w → folded w ≡ filter (λ n. list_all (λ x. nat_lt n (slot_in x)) (new_entries log es)) (folded e.window) → w.low ≡ e.window.low
      → (last, services) ≡ fold noted (e.last, e.services) es → count ≡ e.count + length es
      → StandsFor settings (with_events log es) settled before (record { settings = e.settings; start = e.start; last = last; count = count; services = services; window = w; before = e.before; shown = e.shown })
  absorbed last count services w keeps folds low heard counted =
      let noted_is = heard ∙ ap (λ p. fold noted p es) (λ i. (s.last_is i, s.services_are i)) ∙ all_noted settings log es in
      let longer : length (log.events ++ es) ≡ length log.events + length es = length-append log.events es in
      record {
        legal = legal;
        settings_are = s.settings_are;
        start_is = s.start_is;
        last_is = ap (λ p. p.0) noted_is;
        count_is = omega (arith, counted, s.count_is, longer);
        services_are = ap (λ p. p.1) noted_is;
        entries = subst (λ h. Keeps settings h w) (sym (entries_more log es)) (in_any_order settings (new_entries log es ++ entries_of log) (entries_of log ++ new_entries log es) w (IsPermutation-append_comm (entries_of log) (new_entries log es)) keeps);
        low = omega (arith, low, s.low, last_rises log es);
        settled_within = omega (arith, longer, s.settled_within);
        folded_are = subst (AreSettled (with_events log es) settled w.low) (sym folds) (subst (λ l. AreSettled (with_events log es) settled l kept) (sym low) (still_settled log es settled s.settled_within e.window.low (folded e.window) s.folded_are));
        before_is = s.before_is;
        before_within = omega (arith, longer, s.before_within);
        shown_are = s.shown_are ∙ ap (λ h. cond (eqb before 0) [] (shown_of settings h)) (sym (first_more log es before s.before_within));
      }
    where
      kept : List ℕ
      kept = filter (λ n. list_all (λ x. nat_lt n (slot_in x)) (new_entries log es)) (folded e.window)

-- ---- settled

module _ (settings : Settings) (log : History) (settled before : ℕ) (e : EngineState) (s : StandsFor settings log settled before e) where
  low_is : low_at e.settings.window e.last ≡ low_at settings.window (last_of log)
  low_is = λ i. low_at ((s.settings_are i).window) (s.last_is i)

  pub all_are_settled : (w : EntryWindow) → Keeps settings (entries_of log) w → w.low ≡ low_at e.settings.window e.last
      → folded w ≡ filter (λ n. nat_le (low_at e.settings.window e.last) n) (slots slot_in (below slot_in (slot_of e.last) e.window.items))
      → StandsFor settings log (length log.events) before (record { settings = e.settings; start = e.start; last = e.last; count = e.count; services = e.services; window = w; before = e.before; shown = e.shown })
  all_are_settled w keeps low folds = record {
    legal = s.legal;
    settings_are = s.settings_are;
    start_is = s.start_is;
    last_is = s.last_is;
    count_is = s.count_is;
    services_are = s.services_are;
    entries = keeps;
    low = omega (arith, low ∙ low_is);
    settled_within = omega arith;
    folded_are =
        subst (AreSettled log (length log.events) w.low) (sym (folds ∙ (λ i. filter (λ n. nat_le (low_is i) n) (slots slot_in (below slot_in (slot_of (s.last_is i)) e.window.items)))))
        (subst (λ l. AreSettled log (length log.events) l (filter (λ n. nat_le (low_at settings.window (last_of log)) n) (slots slot_in (below slot_in (slot_of (last_of log)) e.window.items)))) (sym (low ∙ low_is))
        (all_settled log s.entries.all s.entries.in_order e.window s.entries.items (low_at settings.window (last_of log)) s.low));
    before_is = s.before_is;
    before_within = s.before_within;
    shown_are = s.shown_are;
  }

  -- with no more steps than the span has slots
  pub few_steps : (spanned : List ℕ) → AreSpan log settled spanned → length (dirty_slots slot_in e.window (slot_of e.last)) ≤ length spanned
  few_steps spanned span =
      subst (λ t. length (dirty_slots slot_in e.window (slot_of t)) ≤ length spanned) (sym s.last_is)
      (few_dirty log s.entries.all s.entries.in_order e.window s.entries.items settled s.settled_within spanned s.folded_are span)
