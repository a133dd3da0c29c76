-- The certificates of a slot as plain data, in which a price file names plots and tracks by arrival.
use Rattle.std.specs.Prelude.{◌≡◌, ℕ, List, map}
use Rattle.trk_base.specs.declared.keys.Key.{Key}
use Rattle.plot_geometry.specs.Plots.{PlanePlot}
use Rattle.price_form.specs.declared.certs.Cert.{Cert}
use Rattle.track_life.specs.declared.settings.LifeSettings.{LifeSettings}
use Rattle.track_life.specs.Tracks.{TrackState}
use Rattle.slot_step.specs.Certificates.{Certificate, plots, AreCertificates}
use Rattle.slot_step.specs.Tracker.{tracking, ordered}
use Rattle.slot_step.specs.declared.certs.KeyedCert.{KeyedCert}

-- with the arrivals of its plots and of its tracks' first plots, of the slot and the radar of its least plot
abbrev pub as_cert : Certificate PlanePlot Key → Cert
as_cert c = record {
  slot = c.first.key.slot;
  radar = c.first.key.radar;
  plots = map (λ p. p.key.arrival) (plots c);
  tracks = map (λ b. b.arrival) c.births;
  costs = c.costs;
  pairing = c.pairing;
  u = c.u;
  v = c.v;
}

-- beside the key of its least plot
abbrev pub told : Certificate PlanePlot Key → KeyedCert
told c = record { least = c.first.key; cert = as_cert c }

-- these tell the certificates of slot n, in the order of radar and least plot
pub record AreTold (life : LifeSettings) (ts : List TrackState) (n : ℕ) (ps : List PlanePlot) (certs : List KeyedCert) : Type 0 where
  pub certificates : List (Certificate PlanePlot Key)
  pub are : AreCertificates (tracking life) (ordered life) ts n ps certificates
  pub all : certs ≡ map told certificates
