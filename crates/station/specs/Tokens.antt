-- A station's tokens, and what they know.
use Rattle.std.specs.Prelude.{◌≡◌, ◌+◌, ◌<◌, ◌≤◌, ℕ, All, Any, List, [], take, length, vec_capacity}
use Rattle.turn_lock.specs.Turns.{Token, IsTurnOf, newcomer}
use Rattle.admission_log.specs.declared.settings.Settings.{Settings}
use Rattle.admission_log.specs.declared.events.Event.{Event}
use Rattle.admission_log.specs.Histories.{History}
use Rattle.station.specs.declared.shared.Base.{Base}
use Rattle.station.specs.declared.station.Station.{Station}
use Rattle.station.specs.declared.tokens.Feeder.{Feeder}
use Rattle.station.specs.declared.tokens.Conductor.{Conductor}
use Rattle.station.specs.declared.tokens.Subscriber.{Subscriber}

-- what never changes of a station
abbrev pub settings_of : Station → Settings
settings_of station = station.lock.base.settings

abbrev pub start_of : Station → ℕ
start_of station = station.lock.base.start

-- its log with these events
abbrev pub log_with : Station → List Event → History
log_with station events = record { start = start_of station; events = events }

-- the conductor's room is empty, and takes the turns of all tokens
abbrev pub HasRoom : Station → Conductor → Type 0
HasRoom station by = (by.room.items ≡ []) × (1 + station.feeds + station.readers ≤ vec_capacity by.room)

-- the token is the station's
pub record IsFeederOf (station : Station) (by : Feeder) : Type 0 where
  pub turn : IsTurnOf station.lock by.turn
  pub number : by.turn.number ≡ by.feed + 1

pub record IsConductorOf (station : Station) (by : Conductor) : Type 0 where
  pub turn : IsTurnOf station.lock by.turn
  pub number : by.turn.number ≡ 0
  pub roomy : HasRoom station by

pub record IsSubscriberOf (station : Station) (by : Subscriber) : Type 0 where
  pub turn : IsTurnOf station.lock by.turn
  pub number : by.turn.number ≡ station.feeds + 1 + by.reader

-- the events that the conductor has gathered
abbrev pub gathered_of : Conductor → List Event
gathered_of by = take by.gathered by.turn.seen

-- ---- tokens before their first call

pub record IsNewFeeder (station : Station) (feed : ℕ) (by : Feeder) : Type 0 where
  pub turn : by.turn ≡ newcomer station.lock (feed + 1)
  pub feed_is : by.feed ≡ feed

pub record IsNewConductor (station : Station) (by : Conductor) : Type 0 where
  pub turn : by.turn ≡ newcomer station.lock 0
  pub gathered : gathered_of by ≡ []
  pub roomy : HasRoom station by

pub record IsNewSubscriber (station : Station) (reader : ℕ) (by : Subscriber) : Type 0 where
  pub turn : by.turn ≡ newcomer station.lock (station.feeds + 1 + reader)
  pub reader_is : by.reader ≡ reader
  pub number : by.number ≡ 0

-- the token of the lock has added no event
abbrev pub HasAddedNone : Token Event Base → Type 0
HasAddedNone turn = turn.mine ≡ []

-- of so many turns as are left at least n are there to be dealt
abbrev pub AreLeft : ℕ → ℕ → List (Token Event Base) → Type 0
AreLeft n count turns = (count ≡ length turns) × (n ≤ count)

-- ---- all of them

-- each feed's, the conductor and each reader's
pub record AreAllTokens (station : Station) (feeders : List Feeder) (conductor : Conductor) (subscribers : List Subscriber) : Type 0 where
  pub feeders_own : All (IsFeederOf station) feeders
  pub each_feed : (feed : ℕ) → feed < station.feeds → Any (λ x. x.feed ≡ feed) feeders
  pub feed_count : length feeders ≡ station.feeds
  pub conductor_own : IsConductorOf station conductor
  pub subscribers_own : All (IsSubscriberOf station) subscribers
  pub each_reader : (reader : ℕ) → reader < station.readers → Any (λ x. x.reader ≡ reader) subscribers
  pub reader_count : length subscribers ≡ station.readers
