-- What each turn of a token finds and answers.
use Rattle.std.specs.Prelude.{◌≡◌, ◌≤◌, ◌<◌, ◌+◌, ℕ, List, [], ◌∷◌, ◌++◌, length, Option, Some}
use Rattle.asterix_frame.specs.Datagrams.{Content}
use Rattle.turn_lock.specs.Lists.{Begins}
use Rattle.turn_lock.specs.Turns.{Token}
use Rattle.admission_log.specs.declared.events.Event.{Event}
use Rattle.admission_log.specs.declared.events.Event.TheVariants.{Tick, Publish}
use Rattle.admission_log.specs.declared.events.Receipt.{Receipt}
use Rattle.admission_log.specs.Histories.{first, last_of, publications_of, published_of, cut_of}
use Rattle.admission_log.specs.Messages.{Said, said_by}
use Rattle.admission_log.specs.Deliveries.{DeliversOf}
use Rattle.admission_log.specs.Legality.{IsLegal}
use Rattle.edition_form.specs.declared.edition.Edition.{Edition}
use Rattle.edition_form.specs.Editions.{IsEdition}
use Rattle.station.specs.declared.shared.Base.{Base}
use Rattle.station.specs.declared.station.Station.{Station}
use Rattle.station.specs.declared.tokens.Feeder.{Feeder}
use Rattle.station.specs.declared.tokens.Conductor.{Conductor}
use Rattle.station.specs.declared.tokens.Subscriber.{Subscriber}
use Rattle.station.specs.Newest.{IsNewest, last_cut}
use Rattle.station.specs.Tokens.{settings_of, log_with, gathered_of}

-- The events at a turn: they begin with all that the token had seen, and the log with them is legal.
pub record AreFound (station : Station) (turn : Token Event Base) (found : List Event) : Type 0 where
  pub begins : Begins turn.seen found
  pub legal : IsLegal (settings_of station) (log_with station found)

-- .. the conductor's, who has seen each edition that was published
pub record AreConducted (station : Station) (turn : Token Event Base) (found : List Event) : Type 0 where
  pub are_found : AreFound station turn found
  pub publications : publications_of (log_with station found) ≡ publications_of (log_with station turn.seen)

-- the token after a turn that found these events, and added none
abbrev pub having_seen : Token Event Base → List Event → Token Event Base
having_seen turn found = record turn { seen = found }

-- .. that added one, whose index is its own
abbrev pub having_added : Token Event Base → List Event → Event → Token Event Base
having_added turn found event = record turn { seen = found ++ event ∷ []; mine = turn.mine ++ length found ∷ [] }

-- nothing but what it has seen has changed, and that goes on
pub record OnlySaw (old new : Token Event Base) : Type 0 where
  pub begins : Begins old.seen new.seen
  pub after : new ≡ having_seen old new.seen

-- a datagram that said this was admitted, and this was told of it
pub record AdmitsSaid (station : Station) (old new : Feeder) (said : Said) (receipt : Receipt) : Type 0 where
  pub found : List Event
  pub are_found : AreFound station old.turn found
  pub event : Event
  pub delivers : DeliversOf (settings_of station) old.feed said (log_with station found) (log_with station (found ++ event ∷ [])) receipt.outcomes
  pub index : receipt.at ≡ length found
  pub after : new.turn ≡ having_added old.turn found event

-- .. of these contents
abbrev pub Admits : Station → Feeder → Feeder → List Content → Receipt → Type 0
Admits station old new contents receipt = AdmitsSaid station old new (said_by contents) receipt

-- the tick was taken, at that index
pub record Ticks (station : Station) (old new : Conductor) (time index : ℕ) : Type 0 where
  pub found : List Event
  pub are_found : AreConducted station old.turn found
  pub later : last_of (log_with station found) < time
  pub index_is : index ≡ length found
  pub after : new.turn ≡ having_added old.turn found (Tick time)

-- the tick isn't above this last one
pub record IsOld (station : Station) (old new : Conductor) (time last : ℕ) : Type 0 where
  pub are_found : AreConducted station old.turn new.turn.seen
  pub last_is : last ≡ last_of (log_with station new.turn.seen)
  pub not_above : time ≤ last

-- these are the events since those that were gathered before
pub record Gathers (station : Station) (old new : Conductor) (events : List Event) : Type 0 where
  pub are_found : AreConducted station old.turn new.turn.seen
  pub all : new.turn.seen ≡ gathered_of old ++ events
  pub gathered : gathered_of new ≡ new.turn.seen

-- the edition is the next one, of events that were gathered, after the last that was published
pub record MayPublish (station : Station) (by : Conductor) (edition : Edition) : Type 0 where
  pub no_less : cut_of (log_with station by.turn.seen) ≤ edition.cut
  pub no_more : edition.cut ≤ length (gathered_of by)
  pub edition_is : IsEdition (settings_of station) (first edition.cut (log_with station (gathered_of by))) (last_cut (publications_of (log_with station by.turn.seen))) (published_of (log_with station by.turn.seen) + 1) edition

-- it was published, at that index
pub record Publishes (station : Station) (old new : Conductor) (edition : Edition) (index : ℕ) : Type 0 where
  pub found : List Event
  pub are_found : AreConducted station old.turn found
  pub index_is : index ≡ length found
  pub after : new.turn ≡ having_added old.turn found (Publish edition.number edition.cut)

-- this is the newest edition at the turn, or there is none
pub record AsksLatest (station : Station) (old new : Subscriber) (newest : Option Edition) : Type 0 where
  pub are_found : AreFound station old.turn new.turn.seen
  pub newest_is : IsNewest (settings_of station) (log_with station new.turn.seen) newest

-- .. which has a higher number than the subscriber's, and is now its own
pub record TakesNext (station : Station) (old new : Subscriber) (edition : Edition) : Type 0 where
  pub latest : AsksLatest station old new (Some edition)
  pub higher : old.number < edition.number
  pub number : new.number ≡ edition.number

-- there is none with a higher number
pub record HasNoNext (station : Station) (old new : Subscriber) : Type 0 where
  pub are_found : AreFound station old.turn new.turn.seen
  pub not_higher : published_of (log_with station new.turn.seen) ≤ old.number
