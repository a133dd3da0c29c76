-- What an engine is seen as, and what it stands for.
use Rattle.std.specs.Prelude.{◌≡◌, ◌≤◌, ◌++◌, ℕ, List, length, Option}
use Rattle.trk_base.specs.Numbers.{slot_of}
use Rattle.late_window.specs.Windows as windows
use Rattle.late_window.specs.Windows.{Seen, folded}
use Rattle.slot_step.specs.declared.certs.KeyedCert.{KeyedCert}
use Rattle.admission_log.specs.declared.settings.Settings.{Settings}
use Rattle.admission_log.specs.declared.entries.Entry.{Entry}
use Rattle.admission_log.specs.declared.events.Event.{Event}
use Rattle.admission_log.specs.Entries.{entries_of, slot_in}
use Rattle.admission_log.specs.EntryOrder.{entry_cmp}
use Rattle.admission_log.specs.Histories.{History, last_of, low_at}
use Rattle.admission_log.specs.Legality.{IsLegal}
use Rattle.tracker_fold.specs.declared.state.TrackerState.{TrackerState}
use Rattle.tracker_fold.specs.Keys.{key_in}
use Rattle.tracker_fold.specs.Starts.{start}
use Rattle.tracker_fold.specs.Steps.{next, IsOut}
use Rattle.edition_form.specs.declared.lines.ShownLine.{ShownLine}
use Rattle.edition_form.specs.Datagrams.{shown_at}
use Rattle.edition_form.specs.Radars.{services_of}
use Rattle.tracker_engine.specs.Spans.{AreSettled}

-- a window over the entries of a log
abbrev pub EntryWindow : Type 0
EntryWindow = Seen TrackerState Entry (List KeyedCert)

-- an engine, as its callers see it
pub record EngineState : Type 0 where
  pub settings : Settings
  pub start : ℕ
  -- the last tick, and how many events were taken in
  pub last : ℕ
  pub count : ℕ
  -- of each radar the last tick at its newest service message
  pub services : List (Option ℕ)
  -- the entries that may still come late, and the states that they give
  pub window : EntryWindow
  -- the cut of the edition before, and the lines that were shown there
  pub before : ℕ
  pub shown : List ShownLine

-- the window stands for the entries of the log, from no tracks and the settings' own biases
abbrev pub KeepsEntries : Settings → History → EntryWindow → Type 0
KeepsEntries settings log window = windows.StandsFor next IsOut slot_in entry_cmp key_in (start settings) (entries_of log) window

-- The engine stands for a legal log, of which the first `settled` events are settled, and whose edition before was at that cut: it holds
-- the settings, the start, the last tick, the number of events, of each radar the last tick at its newest service message, the cut, and the
-- lines shown there; its window stands for the entries; no entry that can still come is below low; and what is folded is settled.
pub record StandsFor (settings : Settings) (log : History) (settled before : ℕ) (engine : EngineState) : Type 0 where
  pub legal : IsLegal settings log
  pub settings_are : engine.settings ≡ settings
  pub start_is : engine.start ≡ log.start
  pub last_is : engine.last ≡ last_of log
  pub count_is : engine.count ≡ length log.events
  pub services_are : engine.services ≡ services_of settings log
  pub entries : KeepsEntries settings log engine.window
  pub low : engine.window.low ≤ low_at settings.window (last_of log)
  pub settled_within : settled ≤ length log.events
  pub folded_are : AreSettled log settled engine.window.low (folded engine.window)
  pub before_is : engine.before ≡ before
  pub before_within : before ≤ length log.events
  pub shown_are : engine.shown ≡ shown_at settings log before

-- a log with more events
abbrev pub with_events : History → List Event → History
with_events log events = record { start = log.start; events = log.events ++ events }

-- these events continue a legal log for which the engine stands
pub record Continues (engine : EngineState) (events : List Event) : Type 0 where
  pub settings : Settings
  pub log : History
  pub settled : ℕ
  pub before : ℕ
  pub stands : StandsFor settings log settled before engine
  pub legal : IsLegal settings (with_events log events)

-- all of a log for which the engine stands is settled
pub record IsAllSettled (engine : EngineState) : Type 0 where
  pub settings : Settings
  pub log : History
  pub before : ℕ
  pub stands : StandsFor settings log (length log.events) before engine

-- what each engine keeps to: nothing is folded that isn't over, and nothing is dropped that may still change
pub record IsEngine (engine : EngineState) : Type 0 where
  pub upto : engine.window.upto ≤ slot_of engine.last
  pub low : engine.window.low ≤ low_at engine.settings.window engine.last
