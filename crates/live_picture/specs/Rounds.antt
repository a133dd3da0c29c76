-- What an engine tells of a log, and a round of a conductor that publishes all that it gathers.
use Rattle.std.specs.Prelude.{◌≡◌, ◌+◌, ℕ, List, length}
use Rattle.admission_log.specs.declared.settings.Settings.{Settings}
use Rattle.admission_log.specs.declared.events.Event.{Event}
use Rattle.admission_log.specs.Histories.{History, publications_of, published_of, cut_of}
use Rattle.edition_form.specs.declared.edition.Built.{Built}
use Rattle.edition_form.specs.declared.edition.Edition.{Edition}
use Rattle.edition_form.specs.Datagrams.{shown_of}
use Rattle.edition_form.specs.Editions.{IsEdition}
use Rattle.tracker_engine.specs.Engines.{EngineState, StandsFor}
use Rattle.station.specs.declared.station.Station.{Station}
use Rattle.station.specs.declared.tokens.Conductor.{Conductor}
use Rattle.station.specs.Newest.{last_cut}
use Rattle.station.specs.Tokens.{settings_of, log_with, gathered_of, IsConductorOf}
use Rattle.station.specs.Turns.{Gathers, Publishes}
use Rattle.live_picture.specs.declared.live.Live.{Live}

-- the engine stands for the log, however much of it is settled, and its edition before was at that cut
pub record Stands (settings : Settings) (log : History) (before : ℕ) (engine : EngineState) : Type 0 where
  pub settled : ℕ
  pub stands : StandsFor settings log settled before engine

-- .. for some log
pub record IsStanding (engine : EngineState) : Type 0 where
  pub settings : Settings
  pub log : History
  pub before : ℕ
  pub stands : Stands settings log before engine

-- all of the log is settled, and this is its edition of that number, after the one at that cut, with the lines that it shows
pub record Tells (settings : Settings) (log : History) (before number : ℕ) (engine : EngineState) (built : Built) : Type 0 where
  pub stands : StandsFor settings log (length log.events) before engine
  pub edition_is : IsEdition settings log before number built.edition
  pub shown_are : built.shown ≡ shown_of settings log

-- the log that a conductor has seen, and that of the events which it has gathered
abbrev pub seen_log : Station → Conductor → History
seen_log station by = log_with station by.turn.seen

abbrev pub gathered_log : Station → Conductor → History
gathered_log station by = log_with station (gathered_of by)

-- the cut of the last edition that the conductor has seen, or 0
abbrev pub cut_before : Station → Conductor → ℕ
cut_before station by = last_cut (publications_of (seen_log station by))

-- The conductor is the station's, the engine stands for what it gathered, after the last edition, whose cut is the greatest, and the number is the next one.
pub record Follows (station : Station) (live : Live) : Type 0 where
  pub own : IsConductorOf station live.conductor
  pub stands : Stands (settings_of station) (gathered_log station live.conductor) (cut_before station live.conductor) live.engine
  pub greatest : cut_of (seen_log station live.conductor) ≡ cut_before station live.conductor
  pub number_is : live.number ≡ published_of (seen_log station live.conductor) + 1

-- The conductor gathered at one turn, and published at a later one the edition of all that was gathered then. All of it is settled in the engine.
pub record PublishesAll (station : Station) (old new : Live) (index : ℕ) : Type 0 where
  pub gathered : Conductor
  pub events : List Event
  pub gathers : Gathers station old.conductor gathered events
  pub edition : Edition
  pub edition_is : IsEdition (settings_of station) (gathered_log station gathered) (cut_before station old.conductor) old.number edition
  pub publishes : Publishes station gathered new.conductor edition index
  pub kept : gathered_of new.conductor ≡ gathered_of gathered
  pub settled : StandsFor (settings_of station) (gathered_log station new.conductor) (length (gathered_of new.conductor)) (cut_before station new.conductor) new.engine
