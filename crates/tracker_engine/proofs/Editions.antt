-- What is built of an engine where all of its log is settled is the edition of the log.
use Rattle.std.proofs.Common.{◌≡◌, ◌∙◌, ap, sym, subst, ℕ, true, false, cond, eqb, List, [], length, map, Option, Result, Ok, Err}
use Rattle.std.specs.Prelude.{IfOk}
use Rattle.std.specs.List.{enumerate_from, range_with_len}
use Rattle.std.proofs.lemmas.List.{length-map}
use Rattle.std.proofs.lemmas.List.FromFn.{length-enumerate_from, length-range_with_len}
use Rattle.trk_base.specs.declared.memory.NoMemory.{NoMemory}
use Rattle.trk_base.specs.Numbers.{slot_of}
use Rattle.plot_geometry.specs.declared.biases.Bias.{Bias}
use Rattle.plot_geometry.specs.declared.radars.RadarSettings.{RadarSettings}
use Rattle.plot_geometry.specs.Biases.{bias_of}
use Rattle.track_life.specs.Tracks.{TrackState}
use Rattle.late_window.specs.Folding.{Rises, at_slot}
use Rattle.late_window.specs.Windows.{state_of}
use Rattle.late_window.proofs.Orders.{rises_filter}
use Rattle.admission_log.specs.declared.settings.Settings.{Settings}
use Rattle.admission_log.specs.declared.entries.Entry.{Entry}
use Rattle.admission_log.specs.Entries.{slot_in}
use Rattle.admission_log.specs.EntryOrder.{entry_cmp}
use Rattle.admission_log.specs.Biases.{bias_at}
use Rattle.admission_log.specs.Histories.{History, first, last_of}
use Rattle.admission_log.specs.Legality.{IsLegal}
use Rattle.admission_log.proofs.Prefixes.{prefix_legal}
use Rattle.tracker_fold.specs.declared.state.TrackerState.{TrackerState}
use Rattle.tracker_fold.specs.Keys.{key_in}
use Rattle.tracker_fold.specs.Steps.{radars_after}
use Rattle.edition_form.specs.declared.edition.Pictured.{Pictured}
use Rattle.edition_form.specs.declared.lines.ShownLine.{ShownLine}
use Rattle.edition_form.specs.Datagrams.{AreDatagramsOf, ArePictured, lines_in, shown_at, shown_of}
use Rattle.edition_form.specs.Folding.{table_of}
use Rattle.edition_form.specs.Lines.{RiseByNumber}
use Rattle.edition_form.specs.Pictures.{picture, HaveOwnNumbers, AreEarlier}
use Rattle.edition_form.specs.Radars.{biases_of, services_of, service_of}
use Rattle.edition_form.proofs.Climbing.{rises, shown_climb, no_lines}
use Rattle.edition_form.proofs.Foldings.{folded_log, earlier_log}
use Rattle.tracker_engine.specs.Engines.{EngineState, StandsFor}
use Rattle.tracker_engine.proofs.Tables.{table_shown, biases_shown}

-- ---- what is shown of a log meets what is asked

shown_rises : (settings : Settings) (log : History) → IsLegal settings log → RiseByNumber (shown_of settings log)
shown_rises settings log legal = rises (shown_of settings log) (shown_climb settings.life (last_of log) (slot_of (last_of log)) (table_of settings log) (folded_log settings log (slot_of (last_of log)) legal).numbers)

pub before_rises : (settings : Settings) (log : History) (before : ℕ) → IsLegal settings log → RiseByNumber (shown_at settings log before)
before_rises settings log before legal = elim (eqb before 0) as (λ b. RiseByNumber (cond b [] (shown_of settings (first before log)))) [
  | true ↦ no_lines
  | false ↦ shown_rises settings (first before log) (prefix_legal settings log before legal)
]

pub items_rise : (settings : Settings) (log : History) (settled before : ℕ) (e : EngineState) → StandsFor settings log settled before e → Rises entry_cmp key_in e.window.items
items_rise settings log settled before e s = subst (Rises entry_cmp key_in) (sym s.entries.items) (rises_filter entry_cmp key_in _ s.entries.all s.entries.in_order.rise)

-- ---- what is built of

-- these are what is shown of a log after a cut
pub record AreShown (settings : Settings) (log : History) (before : ℕ) (given : Settings) (biases : List Bias) (table : List TrackState) (services : List (Option ℕ)) (time : ℕ) (old : List ShownLine) : Type 0 where
  pub settings_are : given ≡ settings
  pub biases_are : biases ≡ biases_of settings log
  pub table_is : table ≡ table_of settings log
  pub services_are : services ≡ services_of settings log
  pub time_is : time ≡ last_of log
  pub old_are : old ≡ shown_at settings log before

pub shown_now : (settings : Settings) (log : History) (before : ℕ) (e : EngineState) → StandsFor settings log (length log.events) before e
    → (given : Settings) (biases : List Bias) (state : TrackerState) (radars : List RadarSettings) (slot : ℕ) (items : List Entry) (services : List (Option ℕ)) (old : List ShownLine)
    → given ≡ e.settings → biases ≡ map bias_of (radars_after radars (at_slot slot_in slot items)) → radars ≡ state.radars → state ≡ state_of e.window → slot ≡ slot_of e.last → items ≡ e.window.items → services ≡ e.services → old ≡ e.shown
    → AreShown settings log before given biases state.table services e.last old
shown_now settings log before e s given biases state radars slot items services old given_is biases_is radars_is state_is slot_is items_is services_is old_is = record {
  settings_are = given_is ∙ s.settings_are;
  biases_are = biases_is ∙ (λ i. map bias_of (radars_after ((radars_is ∙ ap (λ t. t.radars) state_is) i) (at_slot slot_in (slot_is i) (items_is i)))) ∙ biases_shown settings log before e s;
  table_is = ap (λ t. t.table) state_is ∙ table_shown settings log before e s;
  services_are = services_is ∙ s.services_are;
  time_is = s.last_is;
  old_are = old_is ∙ s.shown_are;
}

module _ (settings : Settings) (log : History) (before : ℕ) (given : Settings) (biases : List Bias) (table : List TrackState) (services : List (Option ℕ)) (time : ℕ) (old : List ShownLine) (are : AreShown settings log before given biases table services time old) where
  pub all_biases : length biases ≡ length given.radars
  all_biases = ap length are.biases_are ∙ length-map (enumerate_from 0 settings.radars) (λ at. bias_at log (bias_of at.1) at.0 (slot_of (last_of log))) ∙ length-enumerate_from 0 settings.radars ∙ ap (λ s. length s.radars) (sym are.settings_are)

  pub all_services : length services ≡ length given.radars
  all_services = ap length are.services_are ∙ all_said ∙ ap (λ s. length s.radars) (sym are.settings_are)
    where
      all_said : length (services_of settings log) ≡ length settings.radars
      all_said = length-map (range_with_len 0 (length settings.radars)) (service_of log) ∙ length-range_with_len 0 (length settings.radars)

  module _ (legal : IsLegal settings log) where
    pub own_numbers : HaveOwnNumbers table
    own_numbers = subst HaveOwnNumbers (sym are.table_is) (folded_log settings log (slot_of (last_of log)) legal).numbers

    pub are_earlier : AreEarlier time table
    are_earlier = subst (λ (z : ℕ × List TrackState). AreEarlier z.0 z.1) (λ i. (sym are.time_is i, sym are.table_is i)) (earlier_log settings log legal)

    pub old_rise : RiseByNumber old
    old_rise = subst RiseByNumber (sym are.old_are) (before_rises settings log before legal)

  -- ---- what is built

  pub lines_are : (r : Result Pictured NoMemory) → IfOk r (λ p. p.shown ≡ lines_in (picture given biases table services time)) → IfOk r (λ p. p.shown ≡ shown_of settings log)
  lines_are (Ok p) h = h ∙ (λ i. lines_in (picture (are.settings_are i) (are.biases_are i) (are.table_is i) (are.services_are i) (are.time_is i)))
  lines_are (Err e) h = tt

  pub datagrams_are : (number : ℕ) (r : Result Pictured NoMemory) → IfOk r (λ p. ArePictured given (picture given biases table services time) old number p.datagrams) → IfOk r (λ p. AreDatagramsOf settings log before number p.datagrams)
  datagrams_are number (Err e) d = tt
  datagrams_are number (Ok p) d =
      subst (λ (z : Settings × (List Bias × (List TrackState × (List (Option ℕ) × (ℕ × List ShownLine))))). ArePictured z.0 (picture z.0 z.1.0 z.1.1.0 z.1.1.1.0 z.1.1.1.1.0) z.1.1.1.1.1 number p.datagrams)
      (λ i. (are.settings_are i, (are.biases_are i, (are.table_is i, (are.services_are i, (are.time_is i, are.old_are i)))))) d
