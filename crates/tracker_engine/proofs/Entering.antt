-- The entries of a log with more events.
use Rattle.std.proofs.Common.{◌≡◌, ◌≢◌, ◌∙◌, ap, sym, refl, subst, ℕ, zero, suc, ◌+◌, ◌≤◌, List, [], ◌∷◌, ◌++◌, length, take, drop, map, append-nil, append_assoc, arith, inl, inr, Some}
use Rattle.std.specs.Prelude.{slice_get, All}
use Rattle.std.specs.List.{AllByRecursion, flat_map, enumerate_from}
use Rattle.std.proofs.lemmas.Grind.{flat_map-append}
use Rattle.std.proofs.lemmas.List.{take-append-le, drop-append-le}
use Rattle.std.proofs.lemmas.List.Elements.{All-head, All-tail}
use Rattle.std.proofs.lemmas.List.FromFn.{length-enumerate_from}
use Rattle.std.proofs.Math.Seq.{take-append_seam}
use Rattle.trk_base.specs.Numbers.{slot_of}
use Rattle.late_window.specs.Windows.{AreNew, Differ}
use Rattle.late_window.proofs.Lists.{all_weaker, all_append}
use Rattle.admission_log.specs.declared.settings.Settings.{Settings}
use Rattle.admission_log.specs.declared.events.Admitted.{Admitted}
use Rattle.admission_log.specs.declared.events.Event.{Event}
use Rattle.admission_log.specs.declared.events.Event.TheVariants as events
use Rattle.admission_log.specs.declared.entries.Entry.{Entry}
use Rattle.admission_log.specs.declared.entries.Entry.TheVariants.{Bias, Plot}
use Rattle.admission_log.specs.Entries.{entries_in, entries_of, slot_in, plot_entry, entry_key, EntryKey, change_key, plot_key, HaveOwnKeys}
use Rattle.admission_log.specs.Histories.{History, first, appended, last_of, low_at}
use Rattle.admission_log.specs.Legality.{IsLegal, IsLegalEvent, IsLegalPlot}
use Rattle.admission_log.proofs.Prefixes.{last_grows}
use Rattle.admission_log.proofs.Greatest.{Has}
use Rattle.tracker_fold.specs.declared.keys.EntryKey as enums
use Rattle.tracker_fold.specs.declared.keys.EntryKey.TheVariants as keys
use Rattle.tracker_fold.specs.Keys.{key_in}
use Rattle.tracker_engine.specs.Engines.{with_events}
use Rattle.tracker_engine.specs.Spans.{entries_from}
use Rattle.tracker_engine.proofs.Members.{all_of, all_at}

-- the entries of events, of which the first has this index
abbrev pub entries_at : ℕ → List Event → List Entry
entries_at index es = flat_map (λ at. entries_in at.0 at.1) (enumerate_from index es)

pub enumerate-append : {X : Type 0} (k : ℕ) (xs ys : List X) → enumerate_from k (xs ++ ys) ≡ enumerate_from k xs ++ enumerate_from (k + length xs) ys
enumerate-append k [] ys = ap (λ n. enumerate_from n ys) (omega arith)
enumerate-append k (x ∷ xs) ys =
    let next : k + 1 + length xs ≡ k + suc (length xs) = omega arith in
    ap (λ l. (k, x) ∷ l) (enumerate-append (k + 1) xs ys ∙ ap (λ n. enumerate_from (k + 1) xs ++ enumerate_from n ys) next)

pub entries_at-append : (k : ℕ) (xs ys : List Event) → entries_at k (xs ++ ys) ≡ entries_at k xs ++ entries_at (k + length xs) ys
entries_at-append k xs ys = ap (flat_map (λ at. entries_in at.0 at.1)) (enumerate-append k xs ys) ∙ flat_map-append (λ at. entries_in at.0 at.1) (enumerate_from k xs) (enumerate_from (k + length xs) ys)

-- one event more
pub entries_at-more : (k : ℕ) (xs : List Event) (x : Event) → entries_at k xs ++ entries_in (k + length xs) x ≡ entries_at k (xs ++ x ∷ [])
entries_at-more k xs x = ap (λ l. entries_at k xs ++ l) (sym (append-nil (entries_in (k + length xs) x))) ∙ sym (entries_at-append k xs (x ∷ []))

module _ (log : History) (es : List Event) where
  abbrev pub new_entries : List Entry
  new_entries = entries_at (length log.events) es

  pub entries_more : entries_of (with_events log es) ≡ entries_of log ++ new_entries
  entries_more = entries_at-append 0 log.events es ∙ ap (λ n. entries_of log ++ entries_at n es) (omega arith)

  pub first_more : (s : ℕ) → s ≤ length log.events → first s (with_events log es) ≡ first s log
  first_more s within = ap (λ l. record { start = log.start; events = l }) (take-append-le s log.events es within)

  pub from_more : (s : ℕ) → s ≤ length log.events → entries_from s (with_events log es) ≡ entries_from s log ++ new_entries
  from_more s within =
      let long : s ≤ length (enumerate_from 0 log.events) = omega (arith, within, length-enumerate_from 0 log.events) in
      ap (λ l. flat_map (λ at. entries_in at.0 at.1) (drop s l)) (enumerate-append 0 log.events es)
      ∙ ap (flat_map (λ at. entries_in at.0 at.1)) (drop-append-le s (enumerate_from 0 log.events) (enumerate_from (0 + length log.events) es) long)
      ∙ flat_map-append (λ at. entries_in at.0 at.1) (drop s (enumerate_from 0 log.events)) (enumerate_from (0 + length log.events) es)
      ∙ ap (λ n. entries_from s log ++ entries_at n es) (omega arith)

-- those of the first events, and those of the others
pub entries_cut : (log : History) (s : ℕ) → s ≤ length log.events → entries_of log ≡ entries_of (first s log) ++ entries_from s log
entries_cut log s within = sym (cut s (enumerate_from 0 log.events)) ∙ ap (λ l. flat_map (λ at. entries_in at.0 at.1) l ++ entries_from s log) (taken 0 s log.events)
  where
    cut : (s : ℕ) (l : List (ℕ × Event)) → flat_map (λ at. entries_in at.0 at.1) (take s l) ++ flat_map (λ at. entries_in at.0 at.1) (drop s l) ≡ flat_map (λ at. entries_in at.0 at.1) l
    cut zero l = refl
    cut (suc s) [] = refl
    cut (suc s) (x ∷ l) = append_assoc (entries_in x.0 x.1) (flat_map (λ at. entries_in at.0 at.1) (take s l)) (flat_map (λ at. entries_in at.0 at.1) (drop s l)) ∙ ap (λ r. entries_in x.0 x.1 ++ r) (cut s l)

    taken : (k s : ℕ) (xs : List Event) → take s (enumerate_from k xs) ≡ enumerate_from k (take s xs)
    taken k zero xs = refl
    taken k (suc s) [] = refl
    taken k (suc s) (x ∷ xs) = ap (λ l. (k, x) ∷ l) (taken (k + 1) s xs)

-- ---- they are open

plots_open : (settings : Settings) (last : ℕ) (admitted : List Admitted) → AllByRecursion (IsLegalPlot settings last) admitted → AllByRecursion (λ e. low_at settings.window last ≤ slot_in e) (map plot_entry admitted)
plots_open settings last [] h = tt
plots_open settings last (a ∷ more) h = (h.0.not_late, plots_open settings last more h.1)

event_open : (settings : Settings) (before : History) (e : Event) (index : ℕ) → IsLegalEvent settings before e → AllByRecursion (λ x. low_at settings.window (last_of before) ≤ slot_in x) (entries_in index e)
event_open settings before (events.Deliver feed admitted told other) index fits = plots_open settings (last_of before) admitted (by_index admitted fits.plots)
  where
    by_index : (more : List Admitted) → All (IsLegalPlot settings (last_of before)) more → AllByRecursion (IsLegalPlot settings (last_of before)) more
    by_index [] h = tt
    by_index (a ∷ more) h = (All-head (IsLegalPlot settings (last_of before)) a more h, by_index more (All-tail (IsLegalPlot settings (last_of before)) a more h))
event_open settings before (events.Tick time) index fits = tt
event_open settings before (events.Publish number cut) index fits = tt
event_open settings before (events.Bias radar slot bias) index fits = (fits.0.not_late, tt)

pub assoc_events : (log : History) (e : Event) (es : List Event) → with_events log (e ∷ es) ≡ with_events (appended log e) es
assoc_events log e es = ap (λ l. record { start = log.start; events = l }) (sym (append_assoc log.events (e ∷ []) es))

-- the first of these events fits the log before
pub fits_first : (settings : Settings) (log : History) (e : Event) (es : List Event) → IsLegal settings (with_events log (e ∷ es)) → IsLegalEvent settings log e
fits_first settings log e es legal =
    subst (λ l. IsLegalEvent settings (record { start = log.start; events = l }) e) (take-append_seam log.events (e ∷ es)) (legal.each (length log.events) e (there log.events))
  where
    there : (xs : List Event) → slice_get (xs ++ e ∷ es) (length xs) ≡ Some e
    there [] = refl
    there (x ∷ xs) = there xs

pub all_open : (settings : Settings) (log : History) (es : List Event) (low : ℕ) → IsLegal settings (with_events log es) → low ≤ low_at settings.window (last_of log) → AllByRecursion (λ x. low ≤ slot_in x) (entries_at (length log.events) es)
all_open settings log [] low legal le = tt
all_open settings log (e ∷ es) low legal le =
    let grown = last_grows log e in
    let count : length (appended log e).events ≡ length log.events + 1 = length_more log.events e in
    let rest = all_open settings (appended log e) es low (subst (IsLegal settings) (assoc_events log e es) legal) (omega (arith, le, slots (last_of log) (last_of (appended log e)) grown)) in
    all_append (λ x. low ≤ slot_in x) (entries_in (length log.events) e) (entries_at (length log.events + 1) es)
    (all_weaker (λ x. low_at settings.window (last_of log) ≤ slot_in x) (λ x. low ≤ slot_in x) (λ x h. omega (arith, h, le)) (entries_in (length log.events) e) (event_open settings log e (length log.events) (fits_first settings log e es legal)))
    (subst (λ n. AllByRecursion (λ x. low ≤ slot_in x) (entries_at n es)) count rest)
  where
    slots : (a b : ℕ) → a ≤ b → slot_of a ≤ slot_of b
    slots a b h = omega (arith, h)

    length_more : (xs : List Event) (x : Event) → length (xs ++ x ∷ []) ≡ length xs + 1
    length_more [] x = refl
    length_more (y ∷ xs) x = omega (arith, length_more xs x)

-- ---- they are new

-- what tells entries apart for the log, of what does for the window
abbrev told : enums.EntryKey → EntryKey
told (keys.Change slot place) = change_key slot place
told (keys.Plot key) = plot_key key

same_told : (x : Entry) → told (key_in x) ≡ entry_key x
same_told (Bias slot place radar bias) = refl
same_told (Plot key raw) = refl

apart : (x y : Entry) → entry_key x ≢ entry_key y → key_in x ≢ key_in y
apart x y h = λ e. h (sym (same_told x) ∙ ap told e ∙ same_told y)

own_right : (xs ys : List Entry) → HaveOwnKeys (xs ++ ys) → HaveOwnKeys ys
own_right [] ys h = h
own_right (x ∷ xs) ys h = own_right xs ys h.1

own_differ : (xs : List Entry) → HaveOwnKeys xs → Differ key_in xs
own_differ [] h = tt
own_differ (x ∷ xs) h = (all_weaker (λ y. entry_key y ≢ entry_key x) (λ y. key_in x ≢ key_in y) (λ y n e. apart y x n (sym e)) xs h.0, own_differ xs h.1)

own_apart : (xs ys : List Entry) (x y : Entry) → HaveOwnKeys (xs ++ ys) → Has x xs → Has y ys → key_in x ≢ key_in y
own_apart [] ys x y h k g = absurd k
own_apart (z ∷ xs) ys x y h (inl e) g = λ same. apart y z (all_at (λ y. entry_key y ≢ entry_key z) y (xs ++ ys) h.0 (right xs ys y g)) (sym same ∙ ap key_in e)
  where
    right : (xs ys : List Entry) (y : Entry) → Has y ys → Has y (xs ++ ys)
    right [] ys y g = g
    right (x ∷ xs) ys y g = inr (right xs ys y g)
own_apart (z ∷ xs) ys x y h (inr k) g = own_apart xs ys x y h.1 k g

-- new entries have new keys, beside any of the old ones
pub are_new : (old new kept : List Entry) → HaveOwnKeys (old ++ new) → ((x : Entry) → Has x kept → Has x old) → AreNew key_in kept new
are_new old new kept own among = record {
  differ = own_differ new (own_right old new own);
  apart = all_of (λ x. AllByRecursion (λ y. key_in y ≢ key_in x) kept) new (λ x h. all_of (λ y. key_in y ≢ key_in x) kept (λ y k. own_apart old new y x own (among y k) h));
}
