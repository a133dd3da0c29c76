-- What a price file has of an edition, from what it has of each slot.
use Rattle.std.proofs.Common.{◌≡◌, ◌∙◌, ap, sym, refl, subst, arith, ℕ, List, [], ◌∷◌, ◌++◌, length, map}
use Rattle.std.specs.Prelude.{filter, flat_map, nat_le}
use Rattle.std.proofs.lemmas.Grind.{flat_map-append}
use Rattle.std.proofs.lemmas.List.{take_all}
use Rattle.std.proofs.lemmas.List.Folds.{flat_map-map}
use Rattle.price_form.specs.declared.certs.PriceRecord.TheVariants.{Edition}
use Rattle.price_form.specs.Encoding.{cert_octets, price_record_octets}
use Rattle.slot_step.specs.declared.certs.KeyedCert.{KeyedCert}
use Rattle.admission_log.specs.declared.settings.Settings.{Settings}
use Rattle.admission_log.specs.Histories.{History, first, low_at}
use Rattle.edition_form.specs.Certificates.{AreLogCertificates}
use Rattle.edition_form.specs.Prices.{ArePricesOf}
use Rattle.tracker_fold.specs.Priced.{told_octets}
use Rattle.tracker_engine.specs.Engines.{EngineState, StandsFor}
use Rattle.tracker_engine.proofs.Tables.{certs_shown}

-- the records of the slots' certificates are those of all of them
told_together : (outs : List (ℕ × List KeyedCert)) → flat_map (λ o. told_octets o.1) outs ≡ flat_map cert_octets (flat_map (λ o. map (λ k. k.cert) o.1) outs)
told_together [] = refl
told_together (o ∷ outs) =
    (λ i. sym (flat_map-map cert_octets (λ k. k.cert) o.1) i ++ told_together outs i)
    ∙ sym (flat_map-append cert_octets (map (λ k. k.cert) o.1) (flat_map (λ o. map (λ k. k.cert) o.1) outs))

-- a log's first events, all of them
all_of_it : (log : History) → first (length log.events) log ≡ log
all_of_it log = (λ i. record { start = log.start; events = take_all (length log.events) log.events (omega arith) i })

pub prices_are : (settings : Settings) (log : History) (before : ℕ) (e : EngineState) → StandsFor settings log (length log.events) before e → (number count low : ℕ) (outs : List (ℕ × List KeyedCert)) (octets : List ℕ)
    → count ≡ e.count → low ≡ low_at e.settings.window e.last → outs ≡ e.window.outs
    → octets ≡ price_record_octets (Edition number count) ++ flat_map (λ o. told_octets o.1) (filter (λ o. nat_le low o.0) outs)
    → ArePricesOf settings log (number, length log.events) octets
prices_are settings log before e s number count low outs octets count_is low_is outs_are is =
    let kept = filter (λ o. nat_le (low_at e.settings.window e.last) o.0) e.window.outs in
    let certs = flat_map (λ o. map (λ k. k.cert) o.1) kept in
    record {
      certs = certs;
      certificates = subst (λ (l : History). AreLogCertificates settings l certs) (sym (all_of_it log)) (certs_shown settings log before e s certs refl);
      octets_are =
          is
          ∙ (λ i. price_record_octets (Edition number ((count_is ∙ s.count_is) i)) ++ flat_map (λ o. told_octets o.1) (filter (λ o. nat_le (low_is i) o.0) (outs_are i)))
          ∙ ap (λ os. price_record_octets (Edition number (length log.events)) ++ os) (told_together kept);
    }
