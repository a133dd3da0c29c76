-- The earlier moments of a legal log.
use Rattle.std.proofs.Common.{◌≡◌, ◌∙◌, ap, sym, subst, ℕ, zero, suc, ◌<◌, ◌≤◌, ◌^◌, max, List, [], ◌∷◌, length, take, drop, get_or, Some, arith}
use Rattle.std.specs.Prelude.{slice_get, fold}
use Rattle.std.specs.List.{filter_map}
use Rattle.std.proofs.lemmas.List.{take_all, take-take, take-append-drop}
use Rattle.std.proofs.lemmas.List.Elements.{filter_map-append}
use Rattle.std.proofs.lemmas.List.Sums.{fold-append}
use Rattle.std.proofs.lemmas.Option.{slice_get-get_or, none-some}
use Rattle.std.proofs.Math.Seq.{take-suc}
use Rattle.admission_log.specs.declared.settings.Settings.{Settings}
use Rattle.admission_log.specs.declared.events.Event.{Event}
use Rattle.admission_log.specs.declared.events.Event.TheVariants.{Deliver, Tick, Publish, Bias}
use Rattle.admission_log.specs.Histories.{History, appended, first, tick_in, last_of}
use Rattle.admission_log.specs.Legality.{IsLegal, IsLegalEvent}
use Rattle.admission_log.proofs.Growing.{last-appended}

-- ---- a prefix

-- an element of a prefix is one of the list
get_prefix : {X : Type 0} (n : ℕ) (xs : List X) (k : ℕ) (x : X) → slice_get (take n xs) k ≡ Some x → (k < n) × (slice_get xs k ≡ Some x)
get_prefix zero xs k x h = absurd (none-some x h)
get_prefix (suc n) [] k x h = absurd (none-some x h)
get_prefix (suc n) (y ∷ xs) zero x h = (omega arith, h)
get_prefix (suc n) (y ∷ xs) (suc k) x h =
    let at = get_prefix n xs k x h in
    (omega (arith, at.0), at.1)

pub prefix_legal : (settings : Settings) (log : History) (n : ℕ) → IsLegal settings log → IsLegal settings (first n log)
prefix_legal settings log n legal = record {
  each = λ place event at.
      let found = get_prefix n log.events place event at in
      let same : take place (take n log.events) ≡ take place log.events = take-take place n log.events (omega (arith, found.0)) in
      subst (λ events. IsLegalEvent settings (record { start = log.start; events = events }) event) (sym same) (legal.each place event found.1);
}

-- ---- ticks

greatest : (a : ℕ) (ts : List ℕ) → a ≤ fold max a ts
greatest a [] = omega arith
greatest a (t ∷ ts) =
    let rest : max a t ≤ fold max a (t ∷ ts) = greatest (max a t) ts in
    omega (arith, rest)

pub last_prefix : (log : History) (n : ℕ) → last_of (first n log) ≤ last_of log
last_prefix log n =
    let whole : last_of log ≡ fold max (last_of (first n log)) (filter_map tick_in (drop n log.events)) =
    ap (λ events. fold max log.start (filter_map tick_in events)) (sym (take-append-drop n log.events))
    ∙ ap (fold max log.start) (filter_map-append tick_in (take n log.events) (drop n log.events))
    ∙ fold-append max log.start (filter_map tick_in (take n log.events)) (filter_map tick_in (drop n log.events)) in
    subst (λ t. last_of (first n log) ≤ t) (sym whole) (greatest (last_of (first n log)) (filter_map tick_in (drop n log.events)))

pub last_grows : (before : History) (e : Event) → last_of before ≤ last_of (appended before e)
last_grows before e = subst (λ t. last_of before ≤ t) (sym (last-appended before e)) (greatest (last_of before) (filter_map tick_in (e ∷ [])))

-- ---- event by event

-- What holds of a log without events, and goes on holding with each event that fits, holds of a legal log.
module _ (settings : Settings) (log : History) (legal : IsLegal settings log) (P : History → Type 0) (none : P (record { start = log.start; events = [] })) (more : (before : History) (e : Event) → IsLegalEvent settings before e → P before → P (appended before e)) where
  of_prefix : (n : ℕ) → n ≤ length log.events → P (first n log)
  of_prefix zero within = none
  of_prefix (suc n) within =
      let lt : n < length log.events = omega arith in
      let e = get_or log.events n (Tick 0) in
      let fits = legal.each n e (slice_get-get_or log.events n (Tick 0) lt) in
      subst (λ events. P (record { start = log.start; events = events })) (sym (take-suc log.events n (Tick 0) lt)) (more (first n log) e fits (of_prefix n (omega arith)))

  pub by_events : P log
  by_events = subst (λ events. P (record { start = log.start; events = events })) (take_all (length log.events) log.events (omega arith)) (of_prefix (length log.events) (omega arith))

-- ---- the last tick

tick_in_time : (settings : Settings) (before : History) (e : Event) → IsLegalEvent settings before e → last_of before < 2 ^ 40 → last_of (appended before e) < 2 ^ 40
tick_in_time settings before (Deliver feed admitted told other) fits h = omega (arith, last-appended before (Deliver feed admitted told other), h)
tick_in_time settings before (Tick time) fits h = omega (arith, last-appended before (Tick time), fits.0, fits.1)
tick_in_time settings before (Publish number cut) fits h = omega (arith, last-appended before (Publish number cut), h)
tick_in_time settings before (Bias radar slot bias) fits h = omega (arith, last-appended before (Bias radar slot bias), h)

pub last_in_time : (settings : Settings) (log : History) → IsLegal settings log → log.start < 2 ^ 40 → last_of log < 2 ^ 40
last_in_time settings log legal start = by_events settings log legal (λ h. last_of h < 2 ^ 40) start (tick_in_time settings)
