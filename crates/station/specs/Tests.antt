-- For the tests: what a conductor keeps to that publishes editions of no events, one after the other.
use Rattle.std.specs.Prelude.{◌≡◌, ◌+◌, ℕ}
use Rattle.std.specs.List.{AllByRecursion}
use Rattle.admission_log.specs.declared.settings.Settings.{Settings}
use Rattle.admission_log.specs.Histories.{publications_of, published_of}
use Rattle.station.specs.declared.station.Station.{Station}
use Rattle.station.specs.declared.tokens.Conductor.{Conductor}
use Rattle.station.specs.Tokens.{settings_of, start_of, log_with, IsConductorOf}

-- the log starts there, the next edition has that number, and each that was published is of no events
pub record PublishesNone (station : Station) (settings : Settings) (start : ℕ) (by : Conductor) (number : ℕ) : Type 0 where
  pub own : IsConductorOf station by
  pub settings_are : settings ≡ settings_of station
  pub start_is : start_of station ≡ start
  pub next : number ≡ published_of (log_with station by.turn.seen) + 1
  pub cuts : AllByRecursion (λ p. p.1 ≡ 0) (publications_of (log_with station by.turn.seen))
