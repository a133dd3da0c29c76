-- The next edition of a log, at a tick that was just taken.
use Rattle.std.proofs.Common.{◌≡◌, ◌≤◌, ◌∙◌, ap, sym, refl, subst, arith, ℕ, ◌+◌, ◌-◌, List, [], ◌∷◌, ◌++◌, length, drop, append-nil, Bool, true, false}
use Rattle.std.specs.Prelude.{Option, Some, None, fold, if◌then◌else◌, ◌==◌}
use Rattle.std.proofs.lemmas.Bool.{ne_eqb}
use Rattle.std.proofs.lemmas.List.{drop-append-le, length_push, length-drop, take_all, take-append-drop, take-append-le}
use Rattle.admission_log.specs.declared.settings.Settings.{Settings}
use Rattle.admission_log.specs.declared.events.Event.{Event}
use Rattle.admission_log.specs.declared.events.Event.TheVariants.{Tick}
use Rattle.admission_log.specs.Histories.{History, appended, first, tick_in}
use Rattle.admission_log.specs.Legality.{IsLegal}
use Rattle.edition_form.specs.Datagrams.{AreDatagramsOf, shown_at, shown_of}
use Rattle.edition_form.specs.Prices.{ArePricesOf}
use Rattle.std.specs.List.{concat}
use Rattle.std.specs.Option.{option_to_list}
use Rattle.tracker_engine.specs.Counts.{IsCertificateCount}
use Rattle.tracker_engine.specs.Engines.{Continues, EngineState, StandsFor}
use Rattle.tracker_engine.specs.Engines as engines
use Rattle.tracker_session.specs.declared.editions.EditionParts.{EditionParts}
use Rattle.tracker_session.specs.declared.editions.Editions.{Editions}
use Rattle.tracker_session.specs.Editions.{AreGiven, ArePartsOfNewest, HasNext}
use Rattle.recording.specs.Items.{Item, datagram, tick, bias}
use Rattle.tracker_session.specs.Taking.{shows}
use Rattle.tracker_session.proofs.Logs.{delivery_kinds}
use Rattle.tracker_session.specs.Replay.{Adds, IsEditionAt, cut_before, cuts_of, empty_log, last_cut, log_with, newest}
use Rattle.tracker_session.proofs.Outputs.{cuts_still, cuts_tick, last_tick, last_within}

-- ---- the events that are new

-- all of a log's first events
pub first_all : (log : History) → first (length log.events) log ≡ log
first_all log = (λ i. record { start = log.start; events = take_all (length log.events) log.events (omega arith) i })

-- the events since a cut, with what is added to the log
pub newest_more : (log : History) (added : Option Event) (cut : ℕ) (recent longer : List Event) → cut ≤ length log.events → recent ≡ drop cut log.events → longer ≡ recent ++ option_to_list added → longer ≡ drop cut (log_with log added).events
newest_more log None cut recent longer within is more = more ∙ append-nil recent ∙ is
newest_more log (Some event) cut recent longer within is more = more ∙ ap (λ es. es ++ event ∷ []) is ∙ sym (drop-append-le cut log.events (event ∷ []) within)

-- up to a cut a log with one more event is the same
pub first_kept : (log : History) (event : Event) (cut : ℕ) → cut ≤ length log.events → first cut log ≡ first cut (appended log event)
first_kept log event cut within = (λ i. record { start = log.start; events = sym (take-append-le cut log.events (event ∷ []) within) i })

module _ (settings : Settings) (log : History) (recent : List Event) (editions : Editions) (h : HasNext settings log recent editions) where
  -- the log is the earlier one with the tick
  pub number_of_events : length log.events ≡ length h.earlier.events + 1
  number_of_events = omega (arith, ap (λ (l : History). length l.events) h.parts, length_push h.earlier.events (Tick h.time))

  pub cut_within : editions.cut ≤ length h.earlier.events
  cut_within = omega (arith, h.given.cut_is, last_within h.earlier)

  pub stands_first : StandsFor settings (first editions.cut log) editions.cut editions.cut editions.engine
  stands_first =
      let same : first editions.cut h.earlier ≡ first editions.cut log = first_kept h.earlier (Tick h.time) editions.cut cut_within ∙ ap (first editions.cut) (sym h.parts) in
      subst (λ (l : History). StandsFor settings l editions.cut editions.cut editions.engine) same h.given.stands

  pub rest_are : engines.with_events (first editions.cut log) (drop editions.cut log.events) ≡ log
  rest_are = (λ i. record { start = log.start; events = take-append-drop editions.cut log.events i })

  pub legal_rest : IsLegal settings (engines.with_events (first editions.cut log) (drop editions.cut log.events))
  legal_rest = subst (λ (l : History). IsLegal settings l) (sym rest_are) h.legal

  legal_recent : IsLegal settings (engines.with_events (first editions.cut log) recent)
  legal_recent = subst (λ (es : List Event). IsLegal settings (engines.with_events (first editions.cut log) es)) (sym h.newest_are) legal_rest

  pub continues : Continues editions.engine recent
  continues = record { settings = settings; log = first editions.cut log; settled = editions.cut; before = editions.cut; stands = stands_first; legal = legal_recent }

  -- the engine that took them in stands for all of the log
  pub absorbed : (new : EngineState) → ((s : Settings) (l : History) (settled before : ℕ) → StandsFor s l settled before editions.engine → IsLegal s (engines.with_events l recent) → StandsFor s (engines.with_events l recent) settled before new) → StandsFor settings log editions.cut editions.cut new
  absorbed new stands = subst (λ (l : History). StandsFor settings l editions.cut editions.cut new) (ap (engines.with_events (first editions.cut log)) h.newest_are ∙ rest_are) (stands settings (first editions.cut log) editions.cut editions.cut stands_first legal_recent)

  -- the cut is the log's end
  pub whole_cut : editions.cut + length recent ≡ length log.events
  whole_cut = omega (arith, ap length h.newest_are, length-drop editions.cut log.events, cut_within, number_of_events)

  -- ---- the edition

  -- what the earlier log tells is what the log tells before its tick
  pub before_is : cut_before log (length log.events) ≡ editions.cut
  before_is =
      let n : length log.events - 1 ≡ length h.earlier.events = omega (arith, number_of_events) in
      let same : first (length log.events - 1) log ≡ h.earlier = (λ i. first (n i) (h.parts i)) ∙ sym (first_kept h.earlier (Tick h.time) (length h.earlier.events) (omega arith)) ∙ first_all h.earlier in
      ap last_cut same ∙ sym h.given.cut_is

  pub number_is : length (cuts_of log) ≡ editions.number + 1
  number_is = omega (arith, ap (λ (l : History). length (cuts_of l)) h.parts, ap length (cuts_tick h.earlier h.time), length_push (cuts_of h.earlier) (1 + length h.earlier.events), h.given.number_is)

  pub cut_is : last_cut log ≡ length log.events
  cut_is = ap last_cut h.parts ∙ last_tick h.earlier h.time ∙ ap (λ (l : History). length l.events) (sym h.parts)

  picture_datagrams : (number : ℕ) (datagrams : List (List ℕ)) → number ≡ editions.number + 1 → AreDatagramsOf settings log editions.cut number datagrams → AreDatagramsOf settings log (cut_before log (length log.events)) (length (cuts_of log)) datagrams
  picture_datagrams number datagrams n are = subst (λ (before : ℕ). AreDatagramsOf settings log before (length (cuts_of log)) datagrams) (sym before_is) (subst (λ (m : ℕ). AreDatagramsOf settings log editions.cut m datagrams) (n ∙ sym number_is) are)

  pub newest_parts : (number : ℕ) (parts : EditionParts) → number ≡ editions.number + 1 → AreDatagramsOf settings log editions.cut number parts.datagrams → IsCertificateCount settings log parts.certificates → ArePartsOfNewest settings log parts
  newest_parts number parts n are count = record { datagrams_are = picture_datagrams number parts.datagrams n are; certificates_are = count }

  pub picture_output : (number : ℕ) (datagrams : List (List ℕ)) (octets : List ℕ) → number ≡ editions.number + 1 → AreDatagramsOf settings log editions.cut number datagrams → octets ≡ concat datagrams → IsEditionAt settings log (newest log) octets
  picture_output number datagrams octets n are whole = record {
    datagrams = datagrams;
    are = subst (λ (l : History). AreDatagramsOf settings l (cut_before log (length log.events)) (length (cuts_of log)) datagrams) (sym (first_all log)) (picture_datagrams number datagrams n are);
    whole = whole;
  }

  pub picture_prices : (number : ℕ) (octets : List ℕ) → number ≡ editions.number + 1 → ArePricesOf settings log (number, length log.events) octets → ArePricesOf settings log (newest log) octets
  picture_prices number octets n are = subst (λ (m : ℕ). ArePricesOf settings log (m, length log.events) octets) (n ∙ sym number_is) are

  -- ---- shown

  if_else : {A : Type 0} (b : Bool) (x y : A) → b ≡ false → (if b then x else y) ≡ y
  if_else true x y e = absurd cc
  if_else false x y e = refl

  pub shown_here : shown_of settings log ≡ shown_at settings log (length log.events)
  shown_here = ap (shown_of settings) (sym (first_all log)) ∙ sym (if_else (length log.events == 0) [] (shown_of settings (first (length log.events) log)) (ne_eqb (length log.events) 0 (λ none. omega (arith, number_of_events, none))))

  pub given_next : (new : Editions) → new.number ≡ editions.number + 1 → new.cut ≡ length log.events → new.tracks ≡ length (shown_of settings log) → StandsFor settings log (length log.events) (length log.events) new.engine → AreGiven settings log new
  given_next new number cut tracks stands = record {
    number_is = number ∙ sym number_is;
    cut_is = cut ∙ sym cut_is;
    tracks_are = tracks ∙ ap length (shown_here ∙ ap (shown_at settings log) (sym cut_is));
    stands = subst (λ (n : ℕ). StandsFor settings (first n log) n n new.engine) (sym cut) (subst (λ (l : History). StandsFor settings l (length log.events) (length log.events) new.engine) (sym (first_all log)) stands);
  }

-- ---- the octets of an edition

pub newest_output : (settings : Settings) (log : History) (parts : EditionParts) (octets : List ℕ) → ArePartsOfNewest settings log parts → octets ≡ concat parts.datagrams → IsEditionAt settings log (newest log) octets
newest_output settings log parts octets h whole = record {
  datagrams = parts.datagrams;
  are = subst (λ (l : History). AreDatagramsOf settings l (cut_before log (length log.events)) (length (cuts_of log)) parts.datagrams) (sym (first_all log)) h.datagrams_are;
  whole = whole;
}

-- a log without events is legal
pub empty_legal : (settings : Settings) (start : ℕ) (editions : Editions) → AreGiven settings (empty_log start) editions → IsLegal settings (empty_log start)
empty_legal settings start editions given = subst (λ (n : ℕ). IsLegal settings (first n (empty_log start))) given.cut_is given.stands.legal

-- ---- a log without ticks at its end

-- up to a cut a log with one more event shows the same
shown_kept : (settings : Settings) (log : History) (event : Event) (cut : ℕ) → cut ≤ length log.events → shown_at settings log cut ≡ shown_at settings (appended log event) cut
shown_kept settings log event cut within = ap (λ (l : History). if cut == 0 then [] else shown_of settings l) (first_kept log event cut within)

-- any other event leaves what was given as it is
pub given_still : (settings : Settings) (log : History) (event : Event) (editions : Editions) → tick_in event ≡ None → AreGiven settings log editions → AreGiven settings (appended log event) editions
given_still settings log event editions none h =
    let cuts = cuts_still log event none in
    let last : last_cut log ≡ last_cut (appended log event) = ap (λ cs. fold (λ before cut. cut) 0 cs) (sym cuts) in
    record {
      number_is = h.number_is ∙ ap length (sym cuts);
      cut_is = h.cut_is ∙ last;
      tracks_are = h.tracks_are ∙ ap length (shown_kept settings log event (last_cut log) (omega (arith, last_within log)) ∙ ap (shown_at settings (appended log event)) last);
      stands = subst (λ (l : History). StandsFor settings l editions.cut editions.cut editions.engine) (first_kept log event editions.cut (omega (arith, h.cut_is, last_within log))) h.stands;
    }

-- an item that gives no edition
pub given_silent : (settings : Settings) (log : History) (item : Item) (added : Option Event) (editions : Editions) → Adds settings log item added → shows added ≡ false → AreGiven settings log editions → AreGiven settings (log_with log added) editions
given_silent settings log item None editions h silent given = given
given_silent settings log (datagram feed octets) (Some event) editions h silent given = given_still settings log event editions (delivery_kinds settings log feed octets h.0 event h.2).no_time given
given_silent settings log (tick time) (Some event) editions h silent given = absurd (let shown : shows (Some event) ≡ true = ap (λ e. shows (Some e)) h.1 in cc)
given_silent settings log (bias radar slot b) (Some event) editions h silent given = subst (λ (e : Event). AreGiven settings (appended log e) editions) (sym h.1) (given_still settings log _ editions refl given)

pub record AddsTick (added : Option Event) : Type 0 where
  pub time : ℕ
  pub is : added ≡ Some (Tick time)

-- one that gives an edition adds a tick
pub adds_tick : (settings : Settings) (log : History) (item : Item) (added : Option Event) → Adds settings log item added → shows added ≡ true → AddsTick added
adds_tick settings log item None h shown = absurd cc
adds_tick settings log (datagram feed x) (Some event) h shown = absurd (let silent = (delivery_kinds settings log feed x h.0 event h.2).kinds.tick_taken in cc)
adds_tick settings log (tick time) (Some event) h shown = record { time = time; is = ap Some h.1 }
adds_tick settings log (bias radar slot b) (Some event) h shown = absurd (let silent : shows (Some event) ≡ false = ap (λ e. shows (Some e)) h.1 in cc)

pub next_after : (settings : Settings) (log longer : History) (item : Item) (added : Option Event) (recent : List Event) (editions : Editions) → Adds settings log item added → shows added ≡ true → longer ≡ log_with log added → IsLegal settings longer → AreGiven settings log editions → recent ≡ drop editions.cut longer.events → HasNext settings longer recent editions
next_after settings log longer item added recent editions adds shown grown legal given newest_are =
    let t = adds_tick settings log item added adds shown in
    record { earlier = log; time = t.time; parts = grown ∙ ap (log_with log) t.is; legal = legal; given = given; newest_are = newest_are }
