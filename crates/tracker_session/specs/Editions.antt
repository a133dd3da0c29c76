-- What is kept to give the editions of a log, and what is given of each.
use Rattle.std.specs.Prelude.{◌≡◌, ℕ, List, drop, length}
use Rattle.admission_log.specs.declared.settings.Settings.{Settings}
use Rattle.admission_log.specs.declared.events.Event.{Event}
use Rattle.admission_log.specs.declared.events.Event.TheVariants.{Tick}
use Rattle.admission_log.specs.Histories.{History, appended, first}
use Rattle.admission_log.specs.Legality.{IsLegal}
use Rattle.edition_form.specs.Datagrams.{AreDatagramsOf, shown_at}
use Rattle.edition_form.specs.Prices.{ArePricesOf}
use Rattle.io_traits.specs.Host.{HostState}
use Rattle.io_traits.specs.declared.host.Place.TheVariants as places
use Rattle.session_script.specs.Steps.{PlaceWritten, WritingBroke}
use Rattle.session_script.specs.declared.status.Status.{Status}
use Rattle.tracker_engine.specs.Counts.{IsCertificateCount}
use Rattle.tracker_engine.specs.Engines.{StandsFor}
use Rattle.tracker_session.specs.declared.editions.Editions.{Editions}
use Rattle.tracker_session.specs.declared.editions.EditionOctets.{EditionOctets}
use Rattle.tracker_session.specs.declared.editions.EditionParts.{EditionParts}
use Rattle.tracker_session.specs.Replay.{IsEditionAt, cut_before, cuts_of, last_cut, newest}

-- All editions of the log were given: they are counted, and so are the tracks that the last one shows; and the engine stands for the events up to the last one, which it has shown.
pub record AreGiven (settings : Settings) (log : History) (editions : Editions) : Type 0 where
  pub number_is : editions.number ≡ length (cuts_of log)
  pub cut_is : editions.cut ≡ last_cut log
  pub tracks_are : editions.tracks ≡ length (shown_at settings log (last_cut log))
  pub stands : StandsFor settings (first editions.cut log) editions.cut editions.cut editions.engine

-- The last event of a legal log is a tick, all editions before it were given, and these are the events since the last one.
pub record HasNext (settings : Settings) (log : History) (newest : List Event) (editions : Editions) : Type 0 where
  pub earlier : History
  pub time : ℕ
  pub parts : log ≡ appended earlier (Tick time)
  pub legal : IsLegal settings log
  pub given : AreGiven settings earlier editions
  pub newest_are : newest ≡ drop editions.cut log.events

-- the datagrams are those of the newest edition of a log that ends with a tick, told against the one before, and so many certificates are its
pub record ArePartsOfNewest (settings : Settings) (log : History) (parts : EditionParts) : Type 0 where
  pub datagrams_are : AreDatagramsOf settings log (cut_before log (length log.events)) (length (cuts_of log)) parts.datagrams
  pub certificates_are : IsCertificateCount settings log parts.certificates

-- the octets are those of the log's newest edition, and of its prices
pub record AreNewest (settings : Settings) (log : History) (octets : EditionOctets) : Type 0 where
  pub output : IsEditionAt settings log (newest log) octets.output.items
  pub prices : ArePricesOf settings log (newest log) octets.prices.items

-- ---- written

-- Output got the edition, and then Prices its prices.
pub record EditionWritten (output prices : List ℕ) (old new : HostState) : Type 0 where
  pub mid : HostState
  pub first : PlaceWritten places.Output output old mid
  pub second : PlaceWritten places.Prices prices mid new

-- Writing either broke off.
pub data EditionBroke (output prices : List ℕ) (status : Status) (old new : HostState) : Type 0 where
  at_output : WritingBroke places.Output output status old new → EditionBroke output prices status old new
  at_prices : (mid : HostState) → PlaceWritten places.Output output old mid → WritingBroke places.Prices prices status mid new → EditionBroke output prices status old new
