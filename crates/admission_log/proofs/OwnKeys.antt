-- No two entries of a legal log have one key: changes differ by the index of their events, plots by their arrival.
use Rattle.std.proofs.Common.{◌≡◌, ◌≢◌, ap, sym, subst, ℕ, zero, suc, ◌+◌, ◌<◌, ◌≤◌, List, [], ◌∷◌, ◌++◌, length, map, arith}
use Rattle.std.specs.List.{AllByRecursion, range_with_len}
use Rattle.admission_log.specs.declared.settings.Settings.{Settings}
use Rattle.admission_log.specs.declared.events.Admitted.{Admitted}
use Rattle.admission_log.specs.declared.events.Event.{Event}
use Rattle.admission_log.specs.declared.events.Event.TheVariants as events
use Rattle.admission_log.specs.declared.entries.Entry.{Entry}
use Rattle.admission_log.specs.declared.entries.Entry.TheVariants.{Bias, Plot}
use Rattle.admission_log.specs.Histories.{History, appended, admitted_in, next_of}
use Rattle.admission_log.specs.Legality.{IsLegal, IsLegalEvent}
use Rattle.admission_log.specs.Entries.{entry_key, EntryKey, change_key, plot_key, plot_entry, entries_in, entries_of, HaveOwnKeys}
use Rattle.admission_log.proofs.Growing.{events-appended, next-grown}
use Rattle.admission_log.proofs.Prefixes.{by_events}
use Rattle.admission_log.proofs.Arrivals.{of_event}
use Rattle.admission_log.proofs.Entering.{flat_map-more}

-- it was there before event k and arrival n; it came after
abbrev IsOld : ℕ → ℕ → Entry → Type 0
IsOld k n (Bias slot place radar bias) = place < k
IsOld k n (Plot key raw) = key.arrival < n

abbrev IsNew : ℕ → ℕ → Entry → Type 0
IsNew k n (Bias slot place radar bias) = k ≤ place
IsNew k n (Plot key raw) = n ≤ key.arrival

abbrev AreOld : ℕ → ℕ → List Entry → Type 0
AreOld k n es = AllByRecursion (IsOld k n) es

abbrev AreNew : ℕ → ℕ → List Entry → Type 0
AreNew k n es = AllByRecursion (IsNew k n) es

abbrev index_of : EntryKey → ℕ
index_of (change_key slot place) = place
index_of (plot_key key) = key.arrival

apart : (k n : ℕ) (x y : Entry) → IsOld k n x → IsNew k n y → entry_key y ≢ entry_key x
apart k n (Bias s p r b) (Bias s' p' r' b') old new = λ same. let places : p' ≡ p = ap index_of same in omega (arith, places, old, new)
apart k n (Bias s p r b) (Plot key raw) old new = λ same. cc
apart k n (Plot key raw) (Bias s p r b) old new = λ same. cc
apart k n (Plot key raw) (Plot key' raw') old new = λ same. let arrivals : key'.arrival ≡ key.arrival = ap index_of same in omega (arith, arrivals, old, new)

all_apart : (k n : ℕ) (x : Entry) (ys : List Entry) → IsOld k n x → AreNew k n ys → AllByRecursion (λ y. entry_key y ≢ entry_key x) ys
all_apart k n x [] old new = tt
all_apart k n x (y ∷ ys) old new = (apart k n x y old new.0, all_apart k n x ys old new.1)

all_more : (P : Entry → Type 0) (xs ys : List Entry) → AllByRecursion P xs → AllByRecursion P ys → AllByRecursion P (xs ++ ys)
all_more P [] ys h k = k
all_more P (x ∷ xs) ys h k = (h.0, all_more P xs ys h.1 k)

own_more : (k n : ℕ) (xs ys : List Entry) → AreOld k n xs → HaveOwnKeys xs → AreNew k n ys → HaveOwnKeys ys → HaveOwnKeys (xs ++ ys)
own_more k n [] ys old own new others = others
own_more k n (x ∷ xs) ys old own new others = (all_more (λ y. entry_key y ≢ entry_key x) xs ys own.0 (all_apart k n x ys old.0 new), own_more k n xs ys old.1 own.1 new others)

still_old : (k n k' n' : ℕ) (x : Entry) → k ≤ k' → n ≤ n' → IsOld k n x → IsOld k' n' x
still_old k n k' n' (Bias slot place radar bias) h g old = omega (arith, h, old)
still_old k n k' n' (Plot key raw) h g old = omega (arith, g, old)

all_still : (k n k' n' : ℕ) (xs : List Entry) → k ≤ k' → n ≤ n' → AreOld k n xs → AreOld k' n' xs
all_still k n k' n' [] h g old = tt
all_still k n k' n' (x ∷ xs) h g old = (still_old k n k' n' x h g old.0, all_still k n k' n' xs h g old.1)

-- ---- those of an event

record AreNext (k n k' n' : ℕ) (es : List Entry) : Type 0 where
  pub new : AreNew k n es
  pub own : HaveOwnKeys es
  pub old : AreOld k' n' es

later : (k n m : ℕ) (es : List Entry) → n ≤ m → AreNew k m es → AreNew k n es
later k n m [] h new = tt
later k n m (Bias slot place radar bias ∷ es) h new = (new.0, later k n m es h new.1)
later k n m (Plot key raw ∷ es) h new = (omega (arith, h, new.0), later k n m es h new.1)

-- plots are new after any event
plots_new : (k k' n : ℕ) (admitted : List Admitted) → AreNew k' n (map plot_entry admitted) → AreNew k n (map plot_entry admitted)
plots_new k k' n [] new = tt
plots_new k k' n (a ∷ more) new = (new.0, plots_new k k' n more new.1)

plots_next : (k n m : ℕ) (admitted : List Admitted) → map (λ a. a.arrival) admitted ≡ range_with_len n m → AreNext k n (k + 1) (n + m) (map plot_entry admitted)
plots_next k n m [] e = record { new = tt; own = tt; old = tt }
plots_next k n zero (a ∷ more) e = absurd (cc)
plots_next k n (suc m) (a ∷ more) e =
    let at : a.arrival ≡ n = cc in
    let others : map (λ a. a.arrival) more ≡ range_with_len (n + 1) m = cc in
    let rest = plots_next k (n + 1) m more others in
    record {
      new = (omega (arith, at), later k n (n + 1) (map plot_entry more) (omega arith) rest.new);
      own = (all_apart (k + 1) (n + 1) (plot_entry a) (map plot_entry more) (omega (arith, at)) (plots_new (k + 1) k (n + 1) more rest.new), rest.own);
      old = (omega (arith, at), all_still (k + 1) (n + 1 + m) (k + 1) (n + suc m) (map plot_entry more) (omega arith) (omega arith) rest.old);
    }

event_next : (settings : Settings) (before : History) (e : Event) → IsLegalEvent settings before e → let k = length before.events in AreNext k (next_of before) (k + 1) (next_of before + length (admitted_in e)) (entries_in k e)
event_next settings before (events.Deliver feed admitted told other) fits = plots_next (length before.events) (next_of before) (length admitted) admitted (of_event settings before (events.Deliver feed admitted told other) fits)
event_next settings before (events.Tick time) fits = record { new = tt; own = tt; old = tt }
event_next settings before (events.Publish number cut) fits = record { new = tt; own = tt; old = tt }
event_next settings before (events.Bias radar slot bias) fits = record { new = (omega arith, tt); own = (tt, tt); old = (omega arith, tt) }

-- ---- those of a log

record AreOwn (log : History) : Type 0 where
  pub old : AreOld (length log.events) (next_of log) (entries_of log)
  pub own : HaveOwnKeys (entries_of log)

own_grown : (settings : Settings) (before : History) (e : Event) → IsLegalEvent settings before e → AreOwn before → AreOwn (appended before e)
own_grown settings before e fits h =
    let k = length before.events in
    let n = next_of before in
    let next = event_next settings before e fits in
    let grown : entries_of (appended before e) ≡ entries_of before ++ entries_in k e = flat_map-more entries_in before.events e in
    let count : k + 1 ≡ length (appended before e).events = sym (events-appended before e) in
    let arrivals : n + length (admitted_in e) ≡ next_of (appended before e) = sym (next-grown before e) in
    record {
      old = subst (AreOld (length (appended before e).events) (next_of (appended before e))) (sym grown)
          (all_still (k + 1) (n + length (admitted_in e)) (length (appended before e).events) (next_of (appended before e)) (entries_of before ++ entries_in k e) (omega (arith, count)) (omega (arith, arrivals))
          (all_more (IsOld (k + 1) (n + length (admitted_in e))) (entries_of before) (entries_in k e) (all_still k n (k + 1) (n + length (admitted_in e)) (entries_of before) (omega arith) (omega arith) h.old) next.old));
      own = subst HaveOwnKeys (sym grown) (own_more k n (entries_of before) (entries_in k e) h.old h.own next.new next.own);
    }

pub own_keys : (settings : Settings) (log : History) → IsLegal settings log → HaveOwnKeys (entries_of log)
own_keys settings log legal = (by_events settings log legal AreOwn (record { old = tt; own = tt }) (own_grown settings)).own
