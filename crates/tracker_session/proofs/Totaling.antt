-- The counts of a replay's editions, edition by edition.
use Rattle.std.proofs.Common.{◌≡◌, ◌∙◌, ap, sym, refl, subst, ℕ, ◌+◌, List, [], ◌++◌, length, length-append, append-nil, true, false}
use Rattle.std.specs.Prelude.{Option}
use Rattle.std.specs.List.{concat}
use Rattle.price_form.specs.declared.certs.Cert.{Cert}
use Rattle.recording.specs.Items.{Item}
use Rattle.admission_log.specs.declared.settings.Settings.{Settings}
use Rattle.admission_log.specs.declared.events.Event.{Event}
use Rattle.admission_log.specs.Histories.{History}
use Rattle.edition_form.specs.Certificates.{AreLogCertificates}
use Rattle.tracker_session.specs.declared.editions.EditionParts.{EditionParts}
use Rattle.tracker_session.specs.Counting.{counted}
use Rattle.tracker_session.specs.Editions.{ArePartsOfNewest}
use Rattle.tracker_session.specs.Replay.{Adds, AreCertificates, AreCertificatesAt, IsEditionAt, IsOutput, empty_log, log_with}
use Rattle.tracker_session.specs.Taking.{shows}
use Rattle.tracker_session.specs.Totals.{AreCounted}
use Rattle.tracker_session.proofs.Growing.{silent_grows, tick_grows}
use Rattle.tracker_session.proofs.Nexts.{first_all, newest_output}
use Rattle.tracker_session.proofs.Outputs.{certificates_kept, output_kept}
use Rattle.tracker_session.proofs.Tallying.{counted_more}

-- a log without events has no editions
pub none_counted : (settings : Settings) (start : ℕ) → AreCounted settings (empty_log start) 0 0
none_counted settings start = record {
  output = [];
  output_is = record { pieces = []; editions = tt; whole = refl };
  octets_are = refl;
  certs = [];
  certs_are = record { pieces = []; editions = tt; whole = refl };
  certificates_are = refl;
}

module _ (settings : Settings) (log : History) (item : Item) (added : Option Event) (adds : Adds settings log item added) (octets certificates : ℕ) (h : AreCounted settings log octets certificates) where
  -- what gives no edition
  pub silent_counted : shows added ≡ false → AreCounted settings (log_with log added) octets certificates
  silent_counted silent = record {
    output = h.output ++ [];
    output_is = silent_grows settings (IsEditionAt settings) (output_kept settings) log item added adds silent h.output h.output_is;
    octets_are = h.octets_are ∙ ap (λ (l : List ℕ). counted (length l)) (sym (append-nil h.output));
    certs = h.certs ++ [];
    certs_are = silent_grows settings (AreCertificatesAt settings) (certificates_kept settings) log item added adds silent h.certs h.certs_are;
    certificates_are = h.certificates_are ∙ ap (λ (l : List Cert). counted (length l)) (sym (append-nil h.certs));
  }

  -- this edition
  pub shown_counted : (parts : EditionParts) → shows added ≡ true → ArePartsOfNewest settings (log_with log added) parts → AreCounted settings (log_with log added) (counted (octets + length (concat parts.datagrams))) (counted (certificates + parts.certificates))
  shown_counted parts shown newest =
      let longer = log_with log added in
      let count = newest.certificates_are in
      let piece = newest_output settings longer parts (concat parts.datagrams) newest refl in
      let certs = subst (λ (l : History). AreLogCertificates settings l count.certs) (sym (first_all longer)) count.certificates in
      record {
        output = h.output ++ concat parts.datagrams;
        output_is = tick_grows settings (IsEditionAt settings) (output_kept settings) log item added (concat parts.datagrams) adds shown piece h.output h.output_is;
        octets_are = ap (λ n. counted (n + length (concat parts.datagrams))) h.octets_are ∙ counted_more (length h.output) (length (concat parts.datagrams)) ∙ ap counted (sym (length-append h.output (concat parts.datagrams)));
        certs = h.certs ++ count.certs;
        certs_are = tick_grows settings (AreCertificatesAt settings) (certificates_kept settings) log item added count.certs adds shown certs h.certs h.certs_are;
        certificates_are = ap (λ n. counted (certificates + n)) count.count_is ∙ ap (λ n. counted (n + length count.certs)) h.certificates_are ∙ counted_more (length h.certs) (length count.certs) ∙ ap counted (sym (length-append h.certs count.certs));
      }

-- the same of a log and of counts that are these
pub counted_as : (settings : Settings) (log log' : History) (o o' c c' : ℕ) → log' ≡ log → o' ≡ o → c' ≡ c → AreCounted settings log o c → AreCounted settings log' o' c'
counted_as settings log log' o o' c c' l e f h = record {
  output = h.output;
  output_is = subst (λ (g : History). IsOutput settings g h.output) (sym l) h.output_is;
  octets_are = e ∙ h.octets_are;
  certs = h.certs;
  certs_are = subst (λ (g : History). AreCertificates settings g h.certs) (sym l) h.certs_are;
  certificates_are = f ∙ h.certificates_are;
}
