-- How many certificates the edition of a log has.
use Rattle.std.specs.Prelude.{◌≡◌, ℕ, List, length}
use Rattle.price_form.specs.declared.certs.Cert.{Cert}
use Rattle.admission_log.specs.declared.settings.Settings.{Settings}
use Rattle.admission_log.specs.Histories.{History}
use Rattle.edition_form.specs.Certificates.{AreLogCertificates}

-- as many as certificates of the log, whatever prices prove them
pub record IsCertificateCount (settings : Settings) (log : History) (count : ℕ) : Type 0 where
  pub certs : List Cert
  pub certificates : AreLogCertificates settings log certs
  pub count_is : count ≡ length certs
