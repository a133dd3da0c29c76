-- An engine that takes in two stretches of a log, and shows what it tells of the first one.
use Rattle.std.proofs.Common.{◌≡◌, ◌∙◌, ap, sym, subst, ℕ, ◌≤◌, List, [], ◌++◌, length, take, drop, arith}
use Rattle.std.proofs.lemmas.List.{take-append-drop}
use Rattle.std.proofs.Math.Seq.{take-append_seam}
use Rattle.admission_log.specs.declared.settings.Settings.{Settings}
use Rattle.admission_log.specs.declared.events.Event.{Event}
use Rattle.admission_log.specs.Histories.{History}
use Rattle.admission_log.specs.Legality.{IsLegal}
use Rattle.admission_log.proofs.Prefixes.{prefix_legal}
use Rattle.edition_form.specs.declared.edition.Built.{Built}
use Rattle.edition_form.specs.Datagrams.{shown_at}
use Rattle.tracker_engine.specs.Engines.{EngineState, StandsFor, Continues}
use Rattle.live_picture.specs.Rounds.{Tells}
use Rattle.live_picture.proofs.Telling.{shown_all}

abbrev log_of : ℕ → List Event → History
log_of start events = record { start = start; events = events }

-- what was cut in two is legal
pub cut_legal : (settings : Settings) (start : ℕ) (events : List Event) (before cut : ℕ) (shown earlier later : List Event) → shown ≡ take cut events → earlier ≡ take before shown → later ≡ drop before shown → IsLegal settings (record { start = start; events = events })
    → IsLegal settings (record { start = start; events = earlier ++ later })
cut_legal settings start events before cut shown earlier later s e l legal =
    let whole : earlier ++ later ≡ take cut events = (λ i. e i ++ l i) ∙ (take-append-drop before shown ∙ s) in
    subst (λ (es : List Event). IsLegal settings (log_of start es)) (sym whole) (prefix_legal settings (log_of start events) cut legal)

module _ (settings : Settings) (start : ℕ) (earlier later : List Event) (legal : IsLegal settings (record { start = start; events = earlier ++ later })) (engine : EngineState) (stands : StandsFor settings (record { start = start; events = [] }) 0 0 engine) where
  pub earlier_legal : IsLegal settings (record { start = start; events = earlier })
  earlier_legal = subst (λ (es : List Event). IsLegal settings (log_of start es)) (take-append_seam earlier later) (prefix_legal settings (log_of start (earlier ++ later)) (length earlier) legal)

  pub takes_first : Continues engine earlier
  takes_first = record { settings = settings; log = log_of start []; settled = 0; before = 0; stands = stands; legal = earlier_legal }

  module _ (number : ℕ) (advanced : EngineState) (b : Built) (t : Tells settings (record { start = start; events = earlier }) 0 number advanced b) (cut : ℕ) (all : cut ≡ length earlier) where
    pub rises : advanced.before ≤ cut
    rises = let z : advanced.before ≡ 0 = t.stands.before_is in omega (arith, z)

    pub within : cut ≤ advanced.count
    within = let c : advanced.count ≡ length earlier = t.stands.count_is in omega (arith, c, all)

    pub takes_second : (shown : EngineState) → ((settings : Settings) (log : History) (settled before : ℕ) → StandsFor settings log settled before advanced → b.shown ≡ shown_at settings log cut → StandsFor settings log settled cut shown) → Continues shown later
    takes_second shown show = record {
      settings = settings;
      log = log_of start earlier;
      settled = length earlier;
      before = cut;
      stands = show settings (log_of start earlier) (length earlier) 0 t.stands (t.shown_are ∙ (shown_all settings start earlier ∙ ap (shown_at settings (log_of start earlier)) (sym all)));
      legal = legal;
    }
