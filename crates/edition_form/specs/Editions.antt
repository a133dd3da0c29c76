-- The edition of a log.
use Rattle.std.specs.Prelude.{◌≡◌, ℕ, length}
use Rattle.admission_log.specs.declared.settings.Settings.{Settings}
use Rattle.admission_log.specs.Histories.{History, last_of}
use Rattle.edition_form.specs.declared.edition.Edition.{Edition}
use Rattle.edition_form.specs.Datagrams.{AreDatagramsOf}
use Rattle.edition_form.specs.Certificates.{AreLogCertificates}

-- of all its events, with that number, after the edition at the cut before
pub record IsEdition (settings : Settings) (log : History) (before number : ℕ) (edition : Edition) : Type 0 where
  pub number_is : edition.number ≡ number
  pub cut : edition.cut ≡ length log.events
  pub before_is : edition.before ≡ before
  pub time : edition.time ≡ last_of log
  pub datagrams : AreDatagramsOf settings log before number edition.datagrams
  pub certs : AreLogCertificates settings log edition.certs
