-- An engine that stands for the first events of a log takes in those up to a cut.
use Rattle.std.proofs.Common.{◌≡◌, ◌∙◌, ap, sym, subst, ℕ, ◌+◌, ◌-◌, ◌<◌, ◌≤◌, List, [], ◌++◌, length, take, drop, arith}
use Rattle.std.proofs.lemmas.Bool.{ne_eqb, cond-false}
use Rattle.std.proofs.lemmas.List.{take-take, take-append-drop, drop-take, length-take-le}
use Rattle.admission_log.specs.declared.settings.Settings.{Settings}
use Rattle.admission_log.specs.declared.events.Event.{Event}
use Rattle.admission_log.specs.Histories.{History, first}
use Rattle.admission_log.specs.Legality.{IsLegal}
use Rattle.admission_log.proofs.Prefixes.{prefix_legal}
use Rattle.edition_form.specs.Datagrams.{shown_of, shown_at}
use Rattle.tracker_engine.specs.Engines.{EngineState, StandsFor, Continues, with_events}

-- the events between two cuts
abbrev pub between : History → ℕ → ℕ → List Event
between log from cut = take (cut - from) (drop from log.events)

module _ (log : History) (from cut : ℕ) (later : from < cut) (within : cut ≤ length log.events) where
  pub joined : with_events (first from log) (between log from cut) ≡ first cut log
  joined = ap (λ (es : List Event). record { start = log.start; events = es }) events
    where
      events : take from log.events ++ take (cut - from) (drop from log.events) ≡ take cut log.events
      events =
          let e : from + (cut - from) ≡ cut = omega (arith, later) in
          (λ i. sym (take-take from (from + (cut - from)) log.events (omega arith)) i ++ sym (drop-take from (cut - from) log.events) i)
          ∙ take-append-drop from (take (from + (cut - from)) log.events) ∙ ap (λ n. take n log.events) e

  pub as_many : length (first cut log).events ≡ cut
  as_many = length-take-le cut log.events within

  same_first : first cut (first cut log) ≡ first cut log
  same_first = ap (λ (es : List Event). record { start = log.start; events = es }) (take-take cut cut log.events (omega arith))

  pub shown_there : (settings : Settings) → shown_of settings (first cut log) ≡ shown_at settings (first cut log) cut
  shown_there settings = sym (cond-false _ [] (shown_of settings (first cut (first cut log))) (ne_eqb cut 0 (λ e. omega (arith, later, e))) ∙ ap (shown_of settings) same_first)

  module _ (settings : Settings) (before : ℕ) (legal : IsLegal settings log) (engine : EngineState) (stands : StandsFor settings (first from log) from before engine) (events : List Event) (are : events ≡ between log from cut) where
    all_are : with_events (first from log) events ≡ first cut log
    all_are = ap (with_events (first from log)) are ∙ joined

    pub more_legal : IsLegal settings (with_events (first from log) events)
    more_legal = subst (IsLegal settings) (sym all_are) (prefix_legal settings log cut legal)

    pub continues : Continues engine events
    continues = record { settings = settings; log = first from log; settled = from; before = before; stands = stands; legal = more_legal }

    pub taken_in : (e : EngineState) → StandsFor settings (with_events (first from log) events) from before e → StandsFor settings (first cut log) from before e
    taken_in e s = subst (λ l. StandsFor settings l from before e) all_are s
