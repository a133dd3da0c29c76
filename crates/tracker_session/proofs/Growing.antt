-- What an item makes of what is of all editions.
use Rattle.std.proofs.Common.{◌≡◌, ap, refl, sym, subst, ℕ, List, [], true, false}
use Rattle.std.specs.Prelude.{Option, Some, None}
use Rattle.recording.specs.Items.{Item, datagram, tick, bias}
use Rattle.admission_log.specs.declared.settings.Settings.{Settings}
use Rattle.admission_log.specs.declared.events.Event.{Event}
use Rattle.admission_log.specs.Histories.{History, appended}
use Rattle.tracker_session.specs.Replay.{Adds, log_with, newest}
use Rattle.tracker_session.specs.Taking.{shows}
use Rattle.tracker_session.proofs.Logs.{delivery_kinds}
use Rattle.tracker_session.proofs.Outputs.{Grows, IsKept, more_at_tick, none_more, nothing_given}

module _ {A : Type 0} (settings : Settings) (AreOf : History → ℕ × ℕ → List A → Type 0) (kept : IsKept AreOf) where
  -- what gives no edition leaves it as it is
  pub silent_grows : (log : History) (item : Item) (added : Option Event) → Adds settings log item added → shows added ≡ false → Grows AreOf log (log_with log added) []
  silent_grows log item None h silent = nothing_given AreOf kept log log (λ all is. is)
  silent_grows log (datagram feed octets) (Some event) h silent = nothing_given AreOf kept log (appended log event) (λ all is. none_more AreOf kept log event all (delivery_kinds settings log feed octets h.0 event h.2).no_time is)
  silent_grows log (tick time) (Some event) h silent = absurd (let shown : shows (Some event) ≡ true = ap (λ e. shows (Some e)) h.1 in cc)
  silent_grows log (bias radar slot b) (Some event) h silent = subst (λ (e : Event). Grows AreOf log (appended log e) []) (sym h.1) (nothing_given AreOf kept log (appended log _) (λ all is. none_more AreOf kept log _ all refl is))

  -- a tick gives that of the newest edition of the log with it
  pub tick_grows : (log : History) (item : Item) (added : Option Event) (piece : List A) → Adds settings log item added → shows added ≡ true → AreOf (log_with log added) (newest (log_with log added)) piece → Grows AreOf log (log_with log added) piece
  tick_grows log item None piece h shown newly = absurd cc
  tick_grows log (datagram feed x) (Some event) piece h shown newly = absurd (let silent = (delivery_kinds settings log feed x h.0 event h.2).kinds.tick_taken in cc)
  tick_grows log (tick time) (Some event) piece h shown newly =
      let is = subst (λ (e : Event). AreOf (appended log e) (newest (appended log e)) piece) h.1 newly in
      subst (λ (e : Event). Grows AreOf log (appended log e) piece) (sym h.1) (λ all. more_at_tick AreOf kept log time piece all is)
  tick_grows log (bias radar slot b) (Some event) piece h shown newly = absurd (let silent : shows (Some event) ≡ false = ap (λ e. shows (Some e)) h.1 in cc)
