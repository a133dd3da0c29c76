-- The editions of a log, one after the other, and how they grow with it.
use Rattle.std.proofs.Common.{◌≡◌, ◌∙◌, ap, sym, refl, subst, ℕ, ◌+◌, ◌-◌, ◌<◌, List, [], ◌∷◌, ◌++◌, length, arith, append_assoc, append-nil}
use Rattle.std.specs.Prelude.{Option, None, fold}
use Rattle.std.specs.List.{AllByRecursion, AllZip, concat, cons_option, enumerate_from, filter_map}
use Rattle.std.specs.Option.{option_map}
use Rattle.std.proofs.lemmas.List.{length_push, take-append-le}
use Rattle.std.proofs.lemmas.List.Elements.{filter_map-append}
use Rattle.std.proofs.lemmas.List.Sums.{fold-append}
use Rattle.admission_log.specs.declared.settings.Settings.{Settings}
use Rattle.admission_log.specs.declared.events.Event.{Event}
use Rattle.admission_log.specs.declared.events.Event.TheVariants.{Deliver, Tick, Publish, Bias}
use Rattle.admission_log.specs.Histories.{History, appended, first, tick_in}
use Rattle.edition_form.specs.Certificates.{AreLogCertificates}
use Rattle.edition_form.specs.Datagrams.{AreDatagramsOf}
use Rattle.edition_form.specs.Prices.{ArePricesOf}
use Rattle.tracker_engine.specs.Spans.{AreSpan}
use Rattle.tracker_session.specs.Replay.{AreCertificatesAt, AreOfAll, IsEditionAt, IsOutput, cut_before, cut_in, cuts_of, editions_of, end_to_end, last_cut, newest}
use Rattle.tracker_session.specs.Work.{AreSlotsAt}
use Rattle.tracker_session.proofs.Datagrams.{one_list_of_datagrams}
use Rattle.tracker_session.proofs.Logs.{LogGoesOn, with_events}

-- After what is of all editions of a log the piece makes that of a longer one.
abbrev pub Grows : {A : Type 0} → (History → ℕ × ℕ → List A → Type 0) → History → History → List A → Type 0
Grows {A} AreOf log longer piece = (all : List A) → AreOfAll AreOf log all → AreOfAll AreOf longer (all ++ piece)

-- what is of an edition of a log still is of a longer one
abbrev pub IsKept : {A : Type 0} → (History → ℕ × ℕ → List A → Type 0) → Type 0
IsKept {A} AreOf = (log : History) (more : List Event) (edition : ℕ × ℕ) (piece : List A) → edition.1 < 1 + length log.events → AreOf log edition piece → AreOf (with_events log more) edition piece

-- ---- pieces, one for each thing

zip_push : {A B : Type 0} (R : A → B → Type 0) (xs : List A) (ys : List B) (x : A) (y : B) → AllZip R xs ys → R x y → AllZip R (xs ++ x ∷ []) (ys ++ y ∷ [])
zip_push R [] [] x y h k = (k, tt)
zip_push R [] (b ∷ ys) x y h k = absurd h
zip_push R (a ∷ xs) [] x y h k = absurd h
zip_push R (a ∷ xs) (b ∷ ys) x y h k = (h.0, zip_push R xs ys x y h.1 k)

zip_since : {A B : Type 0} (P : A → Type 0) (R S : A → B → Type 0) → ((x : A) (y : B) → P x → R x y → S x y) → (xs : List A) (ys : List B) → AllByRecursion P xs → AllZip R xs ys → AllZip S xs ys
zip_since P R S since [] [] h k = tt
zip_since P R S since [] (y ∷ ys) h k = absurd k
zip_since P R S since (x ∷ xs) [] h k = absurd k
zip_since P R S since (x ∷ xs) (y ∷ ys) h k = (since x y h.0 k.0, zip_since P R S since xs ys h.1 k.1)

pub record GoesOn {A : Type 0} (out whole : List A) : Type 0 where
  pub rest : List A
  pub parts : whole ≡ out ++ rest

-- where each thing has one piece at most, the pieces of the first things are a prefix
zip_prefix : {A B : Type 0} (R : A → B → Type 0) → ((x : A) (y z : B) → R x y → R x z → y ≡ z) → (xs more : List A) (ys zs : List B) → AllZip R xs ys → AllZip R (xs ++ more) zs → GoesOn ys zs
zip_prefix R one [] more [] zs h k = record { rest = zs; parts = refl }
zip_prefix R one [] more (y ∷ ys) zs h k = absurd h
zip_prefix R one (x ∷ xs) more [] zs h k = absurd h
zip_prefix R one (x ∷ xs) more (y ∷ ys) [] h k = absurd k
zip_prefix R one (x ∷ xs) more (y ∷ ys) (z ∷ zs) h k =
    let others = zip_prefix R one xs more ys zs h.1 k.1 in
    record { rest = others.rest; parts = (λ i. one x z y k.0 h.0 i ∷ others.parts i) }

zip_same : {A B : Type 0} (R : A → B → Type 0) → ((x : A) (y z : B) → R x y → R x z → y ≡ z) → (xs : List A) (ys zs : List B) → AllZip R xs ys → AllZip R xs zs → ys ≡ zs
zip_same R one [] [] [] h k = refl
zip_same R one [] [] (z ∷ zs) h k = absurd k
zip_same R one [] (y ∷ ys) zs h k = absurd h
zip_same R one (x ∷ xs) [] zs h k = absurd h
zip_same R one (x ∷ xs) (y ∷ ys) [] h k = absurd k
zip_same R one (x ∷ xs) (y ∷ ys) (z ∷ zs) h k = (λ i. one x y z h.0 k.0 i ∷ zip_same R one xs ys zs h.1 k.1 i)

pub ends_append : {A : Type 0} (xs ys : List (List A)) → end_to_end (xs ++ ys) ≡ end_to_end xs ++ end_to_end ys
ends_append [] ys = refl
ends_append (x ∷ xs) ys = ap (λ t. x ++ t) (ends_append xs ys) ∙ sym (append_assoc x (end_to_end xs) (end_to_end ys))

-- ---- the editions of a longer log

enumerate_append : {X : Type 0} (n : ℕ) (xs ys : List X) → enumerate_from n (xs ++ ys) ≡ enumerate_from n xs ++ enumerate_from (n + length xs) ys
enumerate_append n [] ys = ap (λ m. enumerate_from m ys) (omega arith)
enumerate_append n (x ∷ xs) ys =
    let after : n + 1 + length xs ≡ n + length (x ∷ xs) = omega arith in
    ap (λ t. (n, x) ∷ t) (enumerate_append (n + 1) xs ys ∙ ap (λ m. enumerate_from (n + 1) xs ++ enumerate_from m ys) after)

cuts_more : (log : History) (more : List Event) → cuts_of (with_events log more) ≡ cuts_of log ++ filter_map cut_in (enumerate_from (1 + length log.events) more)
cuts_more log more = ap (filter_map cut_in) (enumerate_append 1 log.events more) ∙ filter_map-append cut_in (enumerate_from 1 log.events) (enumerate_from (1 + length log.events) more)

-- those of the first events, and then others
abbrev pub editions_after : History → List Event → List (ℕ × ℕ)
editions_after log more = enumerate_from (1 + length (cuts_of log)) (filter_map cut_in (enumerate_from (1 + length log.events) more))

pub editions_more : (log : History) (more : List Event) → editions_of (with_events log more) ≡ editions_of log ++ editions_after log more
editions_more log more = ap (enumerate_from 1) (cuts_more log more) ∙ enumerate_append 1 (cuts_of log) (filter_map cut_in (enumerate_from (1 + length log.events) more))

-- no cut is past the end
cuts_within : (n : ℕ) (events : List Event) → AllByRecursion (λ cut. cut < n + length events) (filter_map cut_in (enumerate_from n events))
cuts_within n [] = tt
cuts_within n (Tick time ∷ events) = (omega arith, subst (λ (end : ℕ). AllByRecursion (λ cut. cut < end) (filter_map cut_in (enumerate_from (n + 1) events))) (omega arith) (cuts_within (n + 1) events))
cuts_within n (Deliver feed admitted told other ∷ events) = subst (λ (end : ℕ). AllByRecursion (λ cut. cut < end) (filter_map cut_in (enumerate_from (n + 1) events))) (omega arith) (cuts_within (n + 1) events)
cuts_within n (Bias radar slot bias ∷ events) = subst (λ (end : ℕ). AllByRecursion (λ cut. cut < end) (filter_map cut_in (enumerate_from (n + 1) events))) (omega arith) (cuts_within (n + 1) events)
cuts_within n (Publish number cut' ∷ events) = subst (λ (end : ℕ). AllByRecursion (λ cut. cut < end) (filter_map cut_in (enumerate_from (n + 1) events))) (omega arith) (cuts_within (n + 1) events)

numbered_within : (end n : ℕ) (cuts : List ℕ) → AllByRecursion (λ cut. cut < end) cuts → AllByRecursion (λ (edition : ℕ × ℕ). edition.1 < end) (enumerate_from n cuts)
numbered_within end n [] h = tt
numbered_within end n (cut ∷ cuts) h = (h.0, numbered_within end (n + 1) cuts h.1)

-- what follows for each edition of a log, whose cut isn't past its end, follows for all
pub zip_within : {A : Type 0} (R S : ℕ × ℕ → List A → Type 0) (log : History) → ((edition : ℕ × ℕ) (piece : List A) → edition.1 < 1 + length log.events → R edition piece → S edition piece) → (pieces : List (List A)) → AllZip R (editions_of log) pieces → AllZip S (editions_of log) pieces
zip_within R S log since pieces h =
    zip_since (λ (edition : ℕ × ℕ). edition.1 < 1 + length log.events) R S since (editions_of log) pieces (numbered_within (1 + length log.events) 1 (cuts_of log) (cuts_within 1 log.events)) h

-- up to a cut a longer log is the same
first_same : (log : History) (more : List Event) (cut : ℕ) → cut < 1 + length log.events → first cut (with_events log more) ≡ first cut log
first_same log more cut within = (λ i. record { start = log.start; events = take-append-le cut log.events more (omega (arith, within)) i })

-- ---- the datagrams and the prices of an edition

pub output_kept : (settings : Settings) → IsKept (IsEditionAt settings)
output_kept settings log more edition octets within h =
    let longer = with_events log more in
    let before : cut_before log edition.1 ≡ cut_before longer edition.1 = ap last_cut (sym (first_same log more (edition.1 - 1) (omega (arith, within)))) in
    record {
      datagrams = h.datagrams;
      are = subst (λ (l : History). AreDatagramsOf settings l (cut_before longer edition.1) edition.0 h.datagrams) (sym (first_same log more edition.1 within)) (subst (λ (b : ℕ). AreDatagramsOf settings (first edition.1 log) b edition.0 h.datagrams) before h.are);
      whole = h.whole;
    }

pub prices_kept : (settings : Settings) → IsKept (ArePricesOf settings)
prices_kept settings log more edition octets within h = record {
  certs = h.certs;
  certificates = subst (λ (l : History). AreLogCertificates settings l h.certs) (sym (first_same log more edition.1 within)) h.certificates;
  octets_are = h.octets_are;
}

pub certificates_kept : (settings : Settings) → IsKept (AreCertificatesAt settings)
certificates_kept settings log more edition certs within h = subst (λ (l : History). AreLogCertificates settings l certs) (sym (first_same log more edition.1 within)) h

-- the slots of an edition of a longer log are those of the log's
pub slots_kept_back : (log : History) (more : List Event) (edition : ℕ × ℕ) (slots : List ℕ) → edition.1 < 1 + length log.events → AreSlotsAt (with_events log more) edition slots → AreSlotsAt log edition slots
slots_kept_back log more edition slots within h =
    let longer = with_events log more in
    let before : cut_before longer edition.1 ≡ cut_before log edition.1 = ap last_cut (first_same log more (edition.1 - 1) (omega (arith, within))) in
    subst (λ (n : ℕ). AreSpan (first edition.1 log) n slots) before (subst (λ (l : History). AreSpan l (cut_before longer edition.1) slots) (first_same log more edition.1 within) h)

-- ---- cuts of a log with one more event

pub cuts_tick : (log : History) (time : ℕ) → cuts_of (appended log (Tick time)) ≡ cuts_of log ++ (1 + length log.events) ∷ []
cuts_tick log time = cuts_more log (Tick time ∷ [])

pub cuts_still : (log : History) (event : Event) → tick_in event ≡ None → cuts_of (appended log event) ≡ cuts_of log
cuts_still log event none =
    let cuts : filter_map cut_in (enumerate_from (1 + length log.events) (event ∷ [])) ≡ [] = ap (λ (t : Option ℕ). cons_option (option_map (λ time. 1 + length log.events) t) []) none in
    cuts_more log (event ∷ []) ∙ ap (λ cs. cuts_of log ++ cs) cuts ∙ append-nil (cuts_of log)

-- the last of some numbers is one of them, or the first that is given
last_among : (P : ℕ → Type 0) (a : ℕ) (xs : List ℕ) → P a → AllByRecursion P xs → P (fold (λ before cut. cut) a xs)
last_among P a [] h k = h
last_among P a (x ∷ xs) h k = last_among P x xs k.0 k.1

pub last_within : (log : History) → last_cut log < 1 + length log.events
last_within log = last_among (λ cut. cut < 1 + length log.events) 0 (cuts_of log) (omega arith) (cuts_within 1 log.events)

pub last_tick : (log : History) (time : ℕ) → last_cut (appended log (Tick time)) ≡ length (appended log (Tick time)).events
last_tick log time =
    let folded : last_cut (appended log (Tick time)) ≡ 1 + length log.events = ap (fold (λ before cut. cut) 0) (cuts_tick log time) ∙ fold-append (λ before cut. cut) 0 (cuts_of log) ((1 + length log.events) ∷ []) in
    omega (arith, folded, length_push log.events (Tick time))

pub newest_is : (log : History) (time : ℕ) → newest (appended log (Tick time)) ≡ (1 + length (cuts_of log), 1 + length log.events)
newest_is log time =
    let number : length (cuts_of (appended log (Tick time))) ≡ 1 + length (cuts_of log) = omega (arith, ap length (cuts_tick log time), length_push (cuts_of log) (1 + length log.events)) in
    let cut : length (log.events ++ Tick time ∷ []) ≡ 1 + length log.events = omega (arith, length_push log.events (Tick time)) in
    (λ i. (number i, cut i))

-- ---- what is of all editions of a longer log

module _ {A : Type 0} (AreOf : History → ℕ × ℕ → List A → Type 0) (kept : IsKept AreOf) where
  editions_kept : (log : History) (more : List Event) (pieces : List (List A)) → AllZip (AreOf log) (editions_of log) pieces → AllZip (AreOf (with_events log more)) (editions_of log) pieces
  editions_kept log more pieces h = zip_within (AreOf log) (AreOf (with_events log more)) log (kept log more) pieces h

  -- a tick gives one more edition, the newest of the log with it
  pub more_at_tick : (log : History) (time : ℕ) (piece all : List A) → AreOf (appended log (Tick time)) (newest (appended log (Tick time))) piece → AreOfAll AreOf log all → AreOfAll AreOf (appended log (Tick time)) (all ++ piece)
  more_at_tick log time piece all newly h =
      let longer = appended log (Tick time) in
      let last : AreOf longer (1 + length (cuts_of log), 1 + length log.events) piece = subst (λ (edition : ℕ × ℕ). AreOf longer edition piece) (newest_is log time) newly in
      let grown = zip_push (AreOf longer) (editions_of log) h.pieces (1 + length (cuts_of log), 1 + length log.events) piece (editions_kept log (Tick time ∷ []) h.pieces h.editions) last in
      record {
        pieces = h.pieces ++ piece ∷ [];
        editions = subst (λ (es : List (ℕ × ℕ)). AllZip (AreOf longer) es (h.pieces ++ piece ∷ [])) (sym (editions_more log (Tick time ∷ []))) grown;
        whole = ap (λ t. t ++ piece) h.whole ∙ ap (λ t. end_to_end h.pieces ++ t) (sym (append-nil piece)) ∙ sym (ends_append h.pieces (piece ∷ []));
      }

  -- any other event gives none
  pub none_more : (log : History) (event : Event) (all : List A) → tick_in event ≡ None → AreOfAll AreOf log all → AreOfAll AreOf (appended log event) all
  none_more log event all none h = record {
    pieces = h.pieces;
    editions = subst (λ (cuts : List ℕ). AllZip (AreOf (appended log event)) (enumerate_from 1 cuts) h.pieces) (sym (cuts_still log event none)) (editions_kept log (event ∷ []) h.pieces h.editions);
    whole = h.whole;
  }

  -- what gives nothing
  pub nothing_given : (log longer : History) → ((all : List A) → AreOfAll AreOf log all → AreOfAll AreOf longer all) → Grows AreOf log longer []
  nothing_given log longer same all h = subst (λ (o : List A). AreOfAll AreOf longer o) (sym (append-nil all)) (same all h)

  -- one piece after the other
  pub grows_on : (log mid longer : History) (a b : List A) → Grows AreOf log mid a → Grows AreOf mid longer b → Grows AreOf log longer (a ++ b)
  grows_on log mid longer a b h k all is = subst (λ (o : List A). AreOfAll AreOf longer o) (append_assoc all a b) (k (all ++ a) (h all is))

-- ---- there is one output

one_edition : (settings : Settings) (log : History) (edition : ℕ × ℕ) (a b : List ℕ) → IsEditionAt settings log edition a → IsEditionAt settings log edition b → a ≡ b
one_edition settings log edition a b h k = h.whole ∙ ap concat (one_list_of_datagrams settings (first edition.1 log) (cut_before log edition.1) edition.0 h.datagrams k.datagrams h.are k.are) ∙ sym k.whole

pub outputs_same : (settings : Settings) (log : History) (a b : List ℕ) → IsOutput settings log a → IsOutput settings log b → a ≡ b
outputs_same settings log a b h k =
    h.whole ∙ ap end_to_end (zip_same (IsEditionAt settings log) (one_edition settings log) (editions_of log) h.pieces k.pieces h.editions k.editions) ∙ sym k.whole

-- the output of a log is a prefix of that of a longer one
pub output_prefix : (settings : Settings) (log longer : History) (out whole : List ℕ) → LogGoesOn log longer → IsOutput settings log out → IsOutput settings longer whole → GoesOn out whole
output_prefix settings log longer out whole on h k =
    let after = with_events log on.more in
    let same = subst (λ (l : History). IsOutput settings l whole) on.parts k in
    let editions = subst (λ (es : List (ℕ × ℕ)). AllZip (IsEditionAt settings after) es same.pieces) (editions_more log on.more) same.editions in
    let pieces = zip_prefix (IsEditionAt settings after) (one_edition settings after) (editions_of log) (editions_after log on.more) h.pieces same.pieces (editions_kept (IsEditionAt settings) (output_kept settings) log on.more h.pieces h.editions) editions in
    record {
      rest = end_to_end pieces.rest;
      parts = same.whole ∙ ap end_to_end pieces.parts ∙ ends_append h.pieces pieces.rest ∙ ap (λ t. t ++ end_to_end pieces.rest) (sym h.whole);
    }
