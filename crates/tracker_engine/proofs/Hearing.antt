-- What an engine keeps of ticks and service messages is what the log tells.
use Rattle.std.proofs.Common.{◌≡◌, ◌∙◌, ap, sym, refl, ℕ, zero, suc, ◌+◌, ◌≤◌, ◌<◌, Bool, true, false, cond, eqb, List, [], ◌∷◌, ◌++◌, length, map, set, Option, Some, None, append-nil, arith}
use Rattle.std.specs.Prelude.{fold, ◌||◌}
use Rattle.std.specs.List.{filter_map, enumerate_from, range_with_len, last_or, list_any, cons_option}
use Rattle.std.specs.Option.{option_or}
use Rattle.std.proofs.lemmas.Bool.{eq-eqb, ne_eqb}
use Rattle.std.proofs.lemmas.List.{take-append-le}
use Rattle.std.proofs.lemmas.List.Elements.{filter_map-append}
use Rattle.std.proofs.Math.Seq.{take-append_seam}
use Rattle.admission_log.specs.declared.settings.Settings.{Settings}
use Rattle.admission_log.specs.declared.events.Event.{Event}
use Rattle.admission_log.specs.declared.events.Event.TheVariants.{Deliver, Tick, Publish, Bias}
use Rattle.admission_log.specs.declared.events.Outcome.{Outcome}
use Rattle.admission_log.specs.declared.events.Outcome.TheVariants as outcomes
use Rattle.admission_log.specs.Histories.{History, appended, first, last_of}
use Rattle.admission_log.proofs.Growing.{last-appended}
use Rattle.edition_form.specs.Radars.{is_service, has_service, services_in, service_of, services_of}
use Rattle.tracker_engine.specs.Hearing.{tick_after, heard, services_after, noted}
use Rattle.tracker_engine.specs.Engines.{with_events}
use Rattle.tracker_engine.proofs.Entering.{enumerate-append, assoc_events}

-- ---- ticks

tick_more : (log : History) (e : Event) → last_of (appended log e) ≡ tick_after (last_of log) e
tick_more log (Deliver feed admitted told other) = last-appended log (Deliver feed admitted told other)
tick_more log (Tick time) = last-appended log (Tick time)
tick_more log (Publish number cut) = last-appended log (Publish number cut)
tick_more log (Bias radar slot bias) = last-appended log (Bias radar slot bias)

-- ---- service messages, radar by radar

-- what is said of each radar of a settings' list
abbrev by_radar : (ℕ → Option ℕ) → ℕ → ℕ → List (Option ℕ)
by_radar f k n = map f (range_with_len k n)

alike : (f g : ℕ → Option ℕ) (k n : ℕ) → ((r : ℕ) → k ≤ r → f r ≡ g r) → by_radar f k n ≡ by_radar g k n
alike f g k zero h = refl
alike f g k (suc n) h = λ i. h k (omega arith) i ∷ alike f g (k + 1) n (λ r le. h r (omega (arith, le))) i

set_radar : (f : ℕ → Option ℕ) (k n i : ℕ) (y : Option ℕ) → set (by_radar f k n) i y ≡ by_radar (λ r. cond (eqb (k + i) r) y (f r)) k n
set_radar f k zero i y = refl
set_radar f k (suc n) zero y =
    λ i. own i ∷ others i
  where
    own : y ≡ cond (eqb (k + 0) k) y (f k)
    own = rw (eq-eqb (k + 0) k (omega arith)) refl

    others : by_radar f (k + 1) n ≡ by_radar (λ r. cond (eqb (k + 0) r) y (f r)) (k + 1) n
    others = alike f (λ r. cond (eqb (k + 0) r) y (f r)) (k + 1) n (λ r le. rw (ne_eqb (k + 0) r (λ e. omega (arith, e, le))) refl)
set_radar f k (suc n) (suc i) y =
    λ j. own j ∷ (set_radar f (k + 1) n i y ∙ ap (λ m. by_radar (λ r. cond (eqb m r) y (f r)) (k + 1) n) next) j
  where
    next : k + 1 + i ≡ k + suc i
    next = omega arith

    own : f k ≡ cond (eqb (k + suc i) k) y (f k)
    own = rw (ne_eqb (k + suc i) k (λ e. omega (arith, e))) refl

one_heard : (last n : ℕ) (f : ℕ → Option ℕ) (o : Outcome) → heard last (by_radar f 0 n) o ≡ by_radar (λ r. cond (is_service r o) (Some last) (f r)) 0 n
one_heard last n f (outcomes.Service (Some i)) = let none : 0 + i ≡ i = omega arith in set_radar f 0 n i (Some last) ∙ ap (λ m. by_radar (λ r. cond (eqb m r) (Some last) (f r)) 0 n) none
one_heard last n f (outcomes.Service None) = refl
one_heard last n f (outcomes.Admitted arrival) = refl
one_heard last n f (outcomes.NotPlot why) = refl
one_heard last n f (outcomes.UnknownRadar) = refl
one_heard last n f (outcomes.BeforeHorizon slot low) = refl
one_heard last n f (outcomes.Ahead time high) = refl

all_heard : (last n : ℕ) (told : List Outcome) (f : ℕ → Option ℕ) → fold (heard last) (by_radar f 0 n) told ≡ by_radar (λ r. cond (list_any (is_service r) told) (Some last) (f r)) 0 n
all_heard last n [] f = refl
all_heard last n (o ∷ told) f =
    ap (λ l. fold (heard last) l told) (one_heard last n f o) ∙ all_heard last n told (λ r. cond (is_service r o) (Some last) (f r))
    ∙ alike _ _ 0 n (λ r le. either (list_any (is_service r) told) (is_service r o) (f r))
  where
    either : (a b : Bool) (x : Option ℕ) → cond a (Some last) (cond b (Some last) x) ≡ cond (b || a) (Some last) x
    either true true x = refl
    either true false x = refl
    either false true x = refl
    either false false x = refl

event_heard : (last n : ℕ) (f : ℕ → Option ℕ) (e : Event) → services_after last (by_radar f 0 n) e ≡ by_radar (λ r. cond (has_service r e) (Some last) (f r)) 0 n
event_heard last n f (Deliver feed admitted told other) = all_heard last n told f
event_heard last n f (Tick time) = refl
event_heard last n f (Publish number cut) = refl
event_heard last n f (Bias radar slot bias) = refl

-- ---- of a log with one more event

same_kept : {X : Type 0} (f g : ℕ × X → Option ℕ) (k : ℕ) (xs : List X) → ((i : ℕ) (x : X) → i < k + length xs → f (i, x) ≡ g (i, x)) → filter_map f (enumerate_from k xs) ≡ filter_map g (enumerate_from k xs)
same_kept f g k [] h = refl
same_kept f g k (x ∷ xs) h = λ i. cons_option (h k x (omega arith) i) (same_kept f g (k + 1) xs (λ j y lt. h j y (omega (arith, lt))) i)

last_more : (o : Option ℕ) (xs : List ℕ) (y : Option ℕ) → last_or o (xs ++ cons_option y []) ≡ option_or y (last_or o xs)
last_more o [] None = refl
last_more o [] (Some y) = refl
last_more o (x ∷ xs) y = last_more (Some x) xs y

service_more : (log : History) (e : Event) (r : ℕ) → service_of (appended log e) r ≡ cond (has_service r e) (Some (last_of log)) (service_of log r)
service_more log e r =
    ap (last_or None) (grown ∙ (λ i. same i ++ one i)) ∙ last_more None (services_in log r) (cond (has_service r e) (Some (last_of log)) None) ∙ of (has_service r e)
  where
    old : ℕ × Event → Option ℕ
    old at = cond (has_service r at.1) (Some (last_of (first at.0 log))) None

    new : ℕ × Event → Option ℕ
    new at = cond (has_service r at.1) (Some (last_of (first at.0 (appended log e)))) None

    grown : services_in (appended log e) r ≡ filter_map new (enumerate_from 0 log.events) ++ filter_map new ((0 + length log.events, e) ∷ [])
    grown = ap (filter_map new) (enumerate-append 0 log.events (e ∷ [])) ∙ filter_map-append new (enumerate_from 0 log.events) ((0 + length log.events, e) ∷ [])

    taken : (i : ℕ) → i ≤ length log.events → last_of (first i (appended log e)) ≡ last_of (first i log)
    taken i le = ap (λ l. last_of (record { start = log.start; events = l })) (take-append-le i log.events (e ∷ []) le)

    same : filter_map new (enumerate_from 0 log.events) ≡ services_in log r
    same = same_kept new old 0 log.events (λ i x lt. ap (λ t. cond (has_service r x) (Some t) None) (taken i (omega (arith, lt))))

    none : 0 + length log.events ≡ length log.events
    none = omega arith

    whole : last_of (first (0 + length log.events) (appended log e)) ≡ last_of log
    whole = ap (λ n. last_of (first n (appended log e))) none ∙ ap (λ l. last_of (record { start = log.start; events = l })) (take-append_seam log.events (e ∷ []))

    one : filter_map new ((0 + length log.events, e) ∷ []) ≡ cons_option (cond (has_service r e) (Some (last_of log)) None) []
    one = ap (λ t. cons_option (cond (has_service r e) (Some t) None) []) whole

    of : (b : Bool) → option_or (cond b (Some (last_of log)) None) (service_of log r) ≡ cond b (Some (last_of log)) (service_of log r)
    of true = refl
    of false = refl

services_more : (settings : Settings) (log : History) (e : Event) → services_of settings (appended log e) ≡ services_after (last_of log) (services_of settings log) e
services_more settings log e =
    alike (service_of (appended log e)) (λ r. cond (has_service r e) (Some (last_of log)) (service_of log r)) 0 (length settings.radars) (λ r le. service_more log e r)
    ∙ sym (event_heard (last_of log) (length settings.radars) (service_of log) e)

-- ---- and with some

pub all_noted : (settings : Settings) (log : History) (es : List Event) → fold noted (last_of log, services_of settings log) es ≡ (last_of (with_events log es), services_of settings (with_events log es))
all_noted settings log [] = ap (λ l. let h : History = record { start = log.start; events = l } in (last_of h, services_of settings h)) (sym (append-nil log.events))
all_noted settings log (e ∷ es) =
    ap (λ p. fold noted p es) (λ i. (sym (tick_more log e) i, sym (services_more settings log e) i))
    ∙ all_noted settings (appended log e) es ∙ ap (λ h. (last_of h, services_of settings h)) (sym (assoc_events log e es))

-- ---- the last tick never falls

tick_rises : (last : ℕ) (e : Event) → last ≤ tick_after last e
tick_rises last (Deliver feed admitted told other) = omega arith
tick_rises last (Tick time) = omega arith
tick_rises last (Publish number cut) = omega arith
tick_rises last (Bias radar slot bias) = omega arith

all_rise : (kept : ℕ × List (Option ℕ)) (es : List Event) → kept.0 ≤ (fold noted kept es).0
all_rise kept [] = omega arith
all_rise kept (e ∷ es) = omega (arith, tick_rises kept.0 e, all_rise (noted kept e) es)

pub never_falls : (last : ℕ) (services : List (Option ℕ)) (es : List Event) (kept : ℕ × List (Option ℕ)) → kept ≡ fold noted (last, services) es → last ≤ kept.0
never_falls last services es kept e = omega (arith, all_rise (last, services) es, ap (λ p. p.0) e)
