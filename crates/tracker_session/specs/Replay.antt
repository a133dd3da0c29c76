-- What a replay gives for the settings and the octets of its input: the log of its items, the editions at the ticks of that log, and the counts.
use Rattle.std.specs.Prelude.{◌≡◌, ◌<◌, ◌≤◌, ◌-◌, ℕ, List, [], ◌∷◌, ◌++◌, fold, length, Option, Some, None}
use Rattle.std.specs.List.{AllZip, concat, enumerate_from, filter_map, flat_map}
use Rattle.std.specs.Option.{option_map}
use Rattle.price_form.specs.declared.certs.Cert.{Cert}
use Rattle.price_form.specs.Files.{magic}
use Rattle.asterix_frame.specs.Datagrams.{Content, IsDatagram, DatagramFault}
use Rattle.recording.specs.declared.header.Header.{Header}
use Rattle.recording.specs.Items.{Item, datagram, tick, bias}
use Rattle.admission_log.specs.declared.settings.Settings.{Settings}
use Rattle.admission_log.specs.declared.events.Event.{Event}
use Rattle.admission_log.specs.declared.events.Event.TheVariants.{Tick, Bias}
use Rattle.admission_log.specs.Histories.{History, appended, first, last_of, tick_in}
use Rattle.admission_log.specs.Changes.{IsOpenChange}
use Rattle.admission_log.specs.Deliveries.{IsDeliveryTo}
use Rattle.edition_form.specs.Certificates.{AreLogCertificates}
use Rattle.edition_form.specs.Datagrams.{AreDatagramsOf}
use Rattle.edition_form.specs.Prices.{ArePricesOf}
use Rattle.tracker_session.specs.declared.counts.Counts.{Counts}
use Rattle.tracker_session.specs.Counting.{counts_of}
use Rattle.tracker_session.specs.Inputs.{IsInput, tells_biases}

-- ---- the log

pub record HasFault (octets : List ℕ) : Type 0 where
  pub offset : ℕ
  pub cause : ℕ
  pub fault : DatagramFault octets offset cause

-- The event that an item adds to a log, or none: a datagram without a fault adds its delivery, a tick above the last one itself, and a change of biases itself, where a radar has its index and its slot isn't before the horizon; a datagram with a fault, an old tick and any other change of biases add nothing.
abbrev pub Adds : Settings → History → Item → Option Event → Type 0
Adds settings log (datagram feed octets) (Some event) = (contents : List Content) × IsDatagram octets contents × IsDeliveryTo settings log feed contents event
Adds settings log (datagram feed octets) None = HasFault octets
Adds settings log (tick time) (Some event) = (last_of log < time) × (event ≡ Tick time)
Adds settings log (tick time) None = time ≤ last_of log
Adds settings log (bias radar slot b) (Some event) = IsOpenChange settings (last_of log) radar slot × (event ≡ Bias radar slot b)
Adds settings log (bias radar slot b) None = IsOpenChange settings (last_of log) radar slot → ⊥

abbrev pub log_with : History → Option Event → History
log_with log (Some event) = appended log event
log_with log None = log

-- the log has what the items add to an earlier log, one after the other
abbrev pub IsLogAfter : Settings → History → List Item → History → Type 0
IsLogAfter settings earlier [] log = log ≡ earlier
IsLogAfter settings earlier (item ∷ items) log = (added : Option Event) × Adds settings earlier item added × IsLogAfter settings (log_with earlier added) items log

-- a log without events
abbrev pub empty_log : ℕ → History
empty_log start = record { start = start; events = [] }

-- the log of all items
abbrev pub IsReplayLog : Settings → ℕ → List Item → History → Type 0
IsReplayLog settings start items log = IsLogAfter settings (empty_log start) items log

-- ---- the editions

-- an event's number among the events, where it is a tick
abbrev pub cut_in : ℕ × Event → Option ℕ
cut_in numbered = option_map (λ time. numbered.0) (tick_in numbered.1)

-- how many events there are up to and with each tick of a log, in order
abbrev pub cuts_of : History → List ℕ
cuts_of log = filter_map cut_in (enumerate_from 1 log.events)

-- the editions that it gives, one for each tick: the number, from 1, and the cut
abbrev pub editions_of : History → List (ℕ × ℕ)
editions_of log = enumerate_from 1 (cuts_of log)

-- the cut of the last one, or 0 where there is none
abbrev pub last_cut : History → ℕ
last_cut log = fold (λ before cut. cut) 0 (cuts_of log)

-- the cut of the one before that at a cut, or 0
abbrev pub cut_before : History → ℕ → ℕ
cut_before log cut = last_cut (first (cut - 1) log)

-- the edition of a log whose last event is a tick
abbrev pub newest : History → ℕ × ℕ
newest log = (length (cuts_of log), length log.events)

-- The octets are the datagrams of an edition, one after the other: those of the log's events up to the cut, told against the edition before.
pub record IsEditionAt (settings : Settings) (log : History) (edition : ℕ × ℕ) (octets : List ℕ) : Type 0 where
  pub datagrams : List (List ℕ)
  pub are : AreDatagramsOf settings (first edition.1 log) (cut_before log edition.1) edition.0 datagrams
  pub whole : octets ≡ concat datagrams

-- pieces, one after the other
abbrev pub end_to_end : {A : Type 0} → List (List A) → List A
end_to_end pieces = flat_map (λ piece. piece) pieces

-- It is what is of all editions of a log, one after the other, where this says what is of each: octets, or certificates.
pub record AreOfAll {A : Type 0} (AreOf : History → ℕ × ℕ → List A → Type 0) (log : History) (all : List A) : Type 0 where
  pub pieces : List (List A)
  pub editions : AllZip (AreOf log) (editions_of log) pieces
  pub whole : all ≡ end_to_end pieces

-- the datagrams of all of them
abbrev pub IsOutput : Settings → History → List ℕ → Type 0
IsOutput settings log octets = AreOfAll (IsEditionAt settings) log octets

-- the certificates are those of an edition: of the log's events up to the cut
abbrev pub AreCertificatesAt : Settings → History → ℕ × ℕ → List Cert → Type 0
AreCertificatesAt settings log edition certs = AreLogCertificates settings (first edition.1 log) certs

-- those of all of them
abbrev pub AreCertificates : Settings → History → List Cert → Type 0
AreCertificates settings log certs = AreOfAll (AreCertificatesAt settings) log certs

-- A price file of all of them: four octets, and of each edition its record and its certificates, whose prices are any that prove.
pub record IsPrices (settings : Settings) (log : History) (octets : List ℕ) : Type 0 where
  pub records : List ℕ
  pub are : AreOfAll (ArePricesOf settings) log records
  pub begins : octets ≡ magic ++ records

-- ---- the replay

-- Under the settings the octets have this output, these counts and this first fault: they are read as items, and the output is that of the items' log.
pub record Replays (settings : Settings) (octets output : List ℕ) (counts : Counts) (fault : Option ℕ) : Type 0 where
  pub header : Option Header
  pub start : ℕ
  pub items : List Item
  pub reading : IsInput octets header start items fault
  pub log : History
  pub log_is : IsReplayLog settings start items log
  pub output_is : IsOutput settings log output
  pub counts_are : counts ≡ counts_of (tells_biases octets) items log

pub record HasReplay (settings : Settings) (octets : List ℕ) : Type 0 where
  pub output : List ℕ
  pub counts : Counts
  pub fault : Option ℕ
  pub replays : Replays settings octets output counts fault
