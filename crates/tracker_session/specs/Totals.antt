-- What is counted of the editions of a log, and the line that tells it.
use Rattle.std.specs.Prelude.{◌≡◌, ℕ, List, ◌++◌, codes, length}
use Rattle.std.specs.Fmt.{decimal}
use Rattle.price_form.specs.declared.certs.Cert.{Cert}
use Rattle.admission_log.specs.declared.settings.Settings.{Settings}
use Rattle.admission_log.specs.Histories.{History}
use Rattle.edition_form.specs.Datagrams.{shown_at}
use Rattle.tracker_session.specs.declared.totals.Totals.{Totals}
use Rattle.tracker_session.specs.Counting.{counted}
use Rattle.tracker_session.specs.Replay.{AreCertificates, IsOutput, last_cut}

-- The octets of all editions are counted, and so are the certificates of all of them, whatever prices prove these.
pub record AreCounted (settings : Settings) (log : History) (octets certificates : ℕ) : Type 0 where
  pub output : List ℕ
  pub output_is : IsOutput settings log output
  pub octets_are : octets ≡ counted (length output)
  pub certs : List Cert
  pub certs_are : AreCertificates settings log certs
  pub certificates_are : certificates ≡ counted (length certs)

-- .. and the tracks that the last edition shows, without those that it tells as ended
pub record AreTotals (settings : Settings) (log : History) (totals : Totals) : Type 0 where
  pub tracks_are : totals.tracks ≡ length (shown_at settings log (last_cut log))
  pub counted_are : AreCounted settings log totals.octets totals.certificates

abbrev pub totals_line : Totals → List ℕ
totals_line t = codes "tracks " ++ (decimal t.tracks ++ (codes " octets " ++ (decimal t.octets ++ (codes " certificates " ++ (decimal t.certificates ++ codes "\n")))))
