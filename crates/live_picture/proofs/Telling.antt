-- What an engine tells of a log, and the lines that are shown at its last cut.
use Rattle.std.proofs.Common.{◌≡◌, ◌∙◌, ap, sym, refl, ℕ, suc, List, [], ◌∷◌, length, arith}
use Rattle.std.specs.Prelude.{Result, Ok, Err, IfOk}
use Rattle.std.proofs.lemmas.Bool.{ne_eqb, cond-false}
use Rattle.std.proofs.lemmas.List.{take_all}
use Rattle.late_window.proofs.Cuts.{before_none}
use Rattle.trk_base.specs.Numbers.{slot_of}
use Rattle.track_life.specs.Tracks.{TrackState}
use Rattle.track_life.specs.Tables.{unexpired}
use Rattle.slot_step.specs.Told.{AreTold}
use Rattle.slot_step.specs.Tracker.{step_tracks}
use Rattle.admission_log.specs.declared.settings.Settings.{Settings}
use Rattle.admission_log.specs.declared.events.Event.{Event}
use Rattle.admission_log.specs.Histories.{History, first}
use Rattle.edition_form.specs.declared.edition.Built.{Built}
use Rattle.edition_form.specs.Datagrams.{shown_of, shown_at}
use Rattle.edition_form.specs.Editions.{IsEdition}
use Rattle.edition_form.specs.Folding.{slot_of_plot, table_of}
use Rattle.edition_form.specs.Lines.{lines_of}
use Rattle.edition_form.specs.Pictures.{shown_tracks}
use Rattle.tracker_engine.specs.Engines.{EngineState, StandsFor}
use Rattle.live_picture.specs.Rounds.{Tells}

pub tells : {F : Type 0} (settings : Settings) (log : History) (before number : ℕ) (engine : EngineState) (r : Result Built F) → StandsFor settings log (length log.events) before engine → IfOk r (λ b. IsEdition settings log before number b.edition) → IfOk r (λ b. b.shown ≡ shown_of settings log)
    → IfOk r (λ b. Tells settings log before number engine b)
tells settings log before number engine (Ok b) stands edition shown = record { stands = stands; edition_is = edition; shown_are = shown }
tells settings log before number engine (Err x) stands edition shown = tt

-- ---- the lines at a cut of all events

no_tracks : (settings : Settings) (start : ℕ) → table_of settings (record { start = start; events = [] }) ≡ []
no_tracks settings start = before_none slot_of_plot (step_tracks settings.life) (AreTold settings.life) [] (slot_of start) [] tt

none_shown : (settings : Settings) (start : ℕ) → lines_of start (shown_tracks settings.life start []) ≡ []
unfolding unexpired
none_shown settings start = refl

-- they are those of the log
pub shown_all : (settings : Settings) (start : ℕ) (events : List Event) → shown_of settings (record { start = start; events = events }) ≡ shown_at settings (record { start = start; events = events }) (length events)
shown_all settings start [] = ap (λ (ts : List TrackState). lines_of start (shown_tracks settings.life start ts)) (no_tracks settings start) ∙ none_shown settings start
shown_all settings start (e ∷ es) =
    let log : History = record { start = start; events = e ∷ es } in
    sym (cond-false _ [] (shown_of settings (first (suc (length es)) log)) (ne_eqb (suc (length es)) 0 (λ z. omega (arith, z)))
    ∙ ap (λ (all : List Event). shown_of settings (record { start = start; events = all })) (take_all (suc (length es)) (e ∷ es) (omega arith)))
