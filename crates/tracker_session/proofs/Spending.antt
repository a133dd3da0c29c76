-- The steps that the editions of a log take.
use Rattle.std.proofs.Common.{◌≡◌, ◌∙◌, ap, sym, refl, subst, arith, ℕ, ◌+◌, ◌-◌, ◌*◌, ◌≤◌, List, [], ◌∷◌, ◌++◌, length, length-append, append-nil, take, drop, true}
use Rattle.std.specs.Prelude.{Option, Some, None, IsFalse}
use Rattle.std.specs.Io.KnownBytes.{Consumes}
use Rattle.std.specs.List.{AllZip}
use Rattle.std.proofs.lemmas.List.{length_push, take-append-drop}
use Rattle.io_traits.specs.Host.{HostState, IsEmpty}
use Rattle.io_traits.specs.Places.{WasRead}
use Rattle.io_traits.specs.Touching.{Touches, is_in}
use Rattle.io_traits.specs.declared.host.Place.{Place}
use Rattle.recording.specs.declared.header.Header.{Header}
use Rattle.recording.specs.Items.{Item}
use Rattle.admission_log.specs.declared.settings.Settings.{Settings}
use Rattle.admission_log.specs.declared.events.Event.{Event}
use Rattle.admission_log.specs.declared.events.Event.TheVariants.{Tick}
use Rattle.admission_log.specs.Histories.{History, appended, first}
use Rattle.tracker_engine.specs.Spans.{AreSpan}
use Rattle.tracker_session.specs.Replay.{Adds, IsReplayLog, cut_before, cuts_of, editions_of, empty_log, end_to_end, last_cut, log_with, newest}
use Rattle.tracker_session.specs.Taking.{shows}
use Rattle.tracker_session.specs.Work.{AreSlots, AreSlotsAt, IsSpentOn, IsSpentOnItems, IsSpentOnOctets}
use Rattle.tracker_session.specs.Inputs.{IsInput}
use Rattle.tracker_session.proofs.Inputs.{one_read}
use Rattle.tracker_session.proofs.Logs.{LogGoesOn, log_goes_on, log_rest, with_events}
use Rattle.tracker_session.proofs.Nexts.{adds_tick, first_all, first_kept}
use Rattle.tracker_session.proofs.Outputs.{editions_after, editions_more, ends_append, newest_is, slots_kept_back, zip_within}

-- ---- the first ones of a longer log's

pub record Split {A B : Type 0} (R : A → B → Type 0) (xs ys : List A) (zs : List B) : Type 0 where
  pub front : List B
  pub rest : List B
  pub parts : zs ≡ front ++ rest
  pub first_are : AllZip R xs front
  pub rest_are : AllZip R ys rest

zip_split : {A B : Type 0} (R : A → B → Type 0) (xs ys : List A) (zs : List B) → AllZip R (xs ++ ys) zs → Split R xs ys zs
zip_split R [] ys zs h = record { front = []; rest = zs; parts = refl; first_are = tt; rest_are = h }
zip_split R (x ∷ xs) ys [] h = absurd h
zip_split R (x ∷ xs) ys (z ∷ zs) h =
    let s = zip_split R xs ys zs h.1 in
    record { front = z ∷ s.front; rest = s.rest; parts = ap (λ t. z ∷ t) s.parts; first_are = (h.0, s.first_are); rest_are = s.rest_are }

-- the pieces of a longer log's editions, taken apart behind those of a log
pub record Fronts (log : History) (more : List Event) (slots : List ℕ) : Type 0 where
  pub front : List ℕ
  pub rest : List (List ℕ)
  pub parts : slots ≡ front ++ end_to_end rest
  pub are : AreSlots log front
  pub rest_are : AllZip (AreSlotsAt (with_events log more)) (editions_after log more) rest

fronts_of : (log : History) (more : List Event) (slots : List ℕ) → AreSlots (with_events log more) slots → Fronts log more slots
fronts_of log more slots h =
    let longer = with_events log more in
    let editions = subst (λ (es : List (ℕ × ℕ)). AllZip (AreSlotsAt longer) es h.pieces) (editions_more log more) h.editions in
    let s = zip_split (AreSlotsAt longer) (editions_of log) (editions_after log more) h.pieces editions in
    record {
      front = end_to_end s.front;
      rest = s.rest;
      parts = h.whole ∙ ap end_to_end s.parts ∙ ends_append s.front s.rest;
      are = record { pieces = s.front; editions = zip_within (AreSlotsAt longer) (AreSlotsAt log) log (slots_kept_back log more) s.front s.first_are; whole = refl };
      rest_are = s.rest_are;
    }

-- ---- a longer log

-- what is spent on a log isn't too much for a longer one
pub spent_more : (log longer : History) (old new : ℕ) → LogGoesOn log longer → IsSpentOn log old new → IsSpentOn longer old new
spent_more log longer old new on spent slots are =
    let f = fronts_of log on.more slots (subst (λ (l : History). AreSlots l slots) on.parts are) in
    let few : length f.front ≤ length slots = omega (arith, ap length f.parts, length-append f.front (end_to_end f.rest)) in
    omega (arith, spent f.front f.are, few)

-- the slots of the one edition that a tick gives
one_piece : (At : ℕ × ℕ → List ℕ → Type 0) (edition : ℕ × ℕ) (rest : List (List ℕ)) → AllZip At (edition ∷ []) rest → (piece : List ℕ) × (end_to_end rest ≡ piece) × At edition piece
one_piece At edition [] h = absurd h
one_piece At edition (piece ∷ []) h = (piece, append-nil piece, h.0)
one_piece At edition (piece ∷ other ∷ rest) h = absurd h.1

-- an edition's steps come to those before
spent_tick : (log : History) (time old mid new : ℕ) → IsSpentOn log old mid → ((slots : List ℕ) → AreSpan (appended log (Tick time)) (last_cut log) slots → new ≤ mid + 31 * length slots) → IsSpentOn (appended log (Tick time)) old new
spent_tick log time old mid new spent bound slots are =
    let longer = appended log (Tick time) in
    let f = fronts_of log (Tick time ∷ []) slots are in
    let last = one_piece (AreSlotsAt longer) (1 + length (cuts_of log), 1 + length log.events) f.rest f.rest_are in
    let newest_slots : AreSlotsAt longer (newest longer) last.0 = subst (λ (edition : ℕ × ℕ). AreSlotsAt longer edition last.0) (sym (newest_is log time)) last.2 in
    let n : length longer.events - 1 ≡ length log.events = omega (arith, length_push log.events (Tick time)) in
    let earlier : first (length longer.events - 1) longer ≡ log = ap (λ k. first k longer) n ∙ sym (first_kept log (Tick time) (length log.events) (omega arith)) ∙ first_all log in
    let span : AreSpan longer (last_cut log) last.0 = subst (λ (k : ℕ). AreSpan longer k last.0) (ap last_cut earlier) (subst (λ (l : History). AreSpan l (cut_before longer (length longer.events)) last.0) (first_all longer) newest_slots) in
    let many : length slots ≡ length f.front + length last.0 = ap length (f.parts ∙ ap (λ t. f.front ++ t) last.1) ∙ length-append f.front last.0 in
    omega (arith, spent f.front f.are, bound last.0 span, many)

pub spent_shown : (settings : Settings) (log longer : History) (item : Item) (added : Option Event) (cut old mid new : ℕ) → Adds settings log item added → shows added ≡ true → longer ≡ log_with log added → cut ≡ last_cut log → IsSpentOn log old mid → ((slots : List ℕ) → AreSpan longer cut slots → new ≤ mid + 31 * length slots) → IsSpentOn longer old new
spent_shown settings log longer item added cut old mid new adds shown is cut_is spent bound =
    let t = adds_tick settings log item added adds shown in
    let tick : longer ≡ appended log (Tick t.time) = is ∙ ap (log_with log) t.is in
    subst (λ (l : History). IsSpentOn l old new) (sym tick) (spent_tick log t.time old mid new spent (λ slots span. bound slots
    (subst (λ (n : ℕ). AreSpan longer n slots) (sym cut_is) (subst (λ (l : History). AreSpan l (last_cut log) slots) (sym tick) span))))

goes_on : (log longer : History) (added : Option Event) → longer ≡ log_with log added → LogGoesOn log longer
goes_on log longer None is = record { more = []; parts = is ∙ (λ i. record { start = log.start; events = sym (append-nil log.events) i }) }
goes_on log longer (Some event) is = record { more = event ∷ []; parts = is }

-- what adds no edition costs none
pub spent_silent : (log longer : History) (added : Option Event) (old new : ℕ) → longer ≡ log_with log added → IsSpentOn log old new → IsSpentOn longer old new
spent_silent log longer added old new is spent = spent_more log longer old new (goes_on log longer added is) spent

-- nothing is spent
pub none_spent : (log : History) (old : ℕ) → IsSpentOn log old old
none_spent log old slots are = omega arith

pub none_spent_on_octets : (settings : Settings) (octets : List ℕ) (old : ℕ) → IsSpentOnOctets settings octets old old
none_spent_on_octets settings octets old header begin items fault reading log is = none_spent log old

-- ---- items

-- what is spent on the log of the first items isn't too much for all
pub spent_on_items : (settings : Settings) (start : ℕ) (items : List Item) (n : ℕ) (log : History) (old new : ℕ) → IsReplayLog settings start (take n items) log → IsSpentOn log old new → IsSpentOnItems settings start items old new
spent_on_items settings start items n log old new is spent whole whole_is =
    let parts = subst (λ (its : List Item). IsReplayLog settings start its whole) (sym (take-append-drop n items)) whole_is in
    let rest = log_rest settings (empty_log start) (take n items) (drop n items) log whole is parts in
    spent_more log whole old new (log_goes_on settings log (drop n items) whole rest) spent

-- an input has one reading
pub input_spent : (settings : Settings) (octets : List ℕ) (header : Option Header) (begin : ℕ) (items : List Item) (fault : Option ℕ) (old new : ℕ) → IsInput octets header begin items fault → IsSpentOnItems settings begin items old new → IsSpentOnOctets settings octets old new
input_spent settings octets header begin items fault old new reading spent header' begin' items' fault' reading' =
    let same = one_read octets header header' begin begin' items items' fault fault' reading reading' in
    subst (λ (n : ℕ). IsSpentOnItems settings n items' old new) same.1 (subst (λ (xs : List Item). IsSpentOnItems settings begin xs old new) same.2 spent)

-- ---- places

-- what was read still is after what doesn't touch the place
pub read_still : (place : Place) (octets : List ℕ) (bound read written : List Place) (old mid new : HostState) → WasRead place octets old mid → Touches bound read written mid new → IsFalse (is_in bound place) → IsFalse (is_in read place) → IsFalse (is_in written place) → WasRead place octets old new
read_still place octets bound read written old mid new h t b r w = record {
  taken = subst (λ (left : Option (List ℕ)). Consumes (old.left place) left octets) (sym (t.left place r)) h.taken;
  within = h.within;
  whole = λ short. subst (λ (left : Option (List ℕ)). IsEmpty left) (sym (t.left place r)) (h.whole short);
  kept = t.faults place b r w ∙ h.kept;
}

-- .. and before
pub read_since : (place : Place) (octets : List ℕ) (bound read written : List Place) (old mid new : HostState) → Touches bound read written old mid → WasRead place octets mid new → IsFalse (is_in bound place) → IsFalse (is_in read place) → IsFalse (is_in written place) → WasRead place octets old new
read_since place octets bound read written old mid new t h b r w = record {
  taken = subst (λ (left : Option (List ℕ)). Consumes left (new.left place) octets) (t.left place r) h.taken;
  within = h.within;
  whole = h.whole;
  kept = h.kept ∙ t.faults place b r w;
}
