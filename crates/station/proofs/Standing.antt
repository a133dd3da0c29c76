-- What the threads share stands for its log after one more event.
use Rattle.std.proofs.Common.{◌≡◌, ◌∙◌, ap, sym, subst, ℕ, false, ◌+◌, ◌≤◌, List, [], ◌∷◌, ◌++◌, length, append-nil, arith}
use Rattle.std.specs.Prelude.{Option, Some, None, Result, Ok, Err, IfOk, OnOk, OnErr}
use Rattle.std.proofs.lemmas.List.{take-append-le}
use Rattle.admission_log.specs.declared.settings.Settings.{Settings}
use Rattle.admission_log.specs.declared.events.Event.{Event}
use Rattle.admission_log.specs.declared.events.Event.TheVariants.{Deliver, Tick, Publish, Bias}
use Rattle.admission_log.specs.Histories.{History, appended, first, publications_of, published_of}
use Rattle.admission_log.specs.declared.events.Receipt.{Receipt}
use Rattle.admission_log.specs.Messages.{Said}
use Rattle.admission_log.specs.Deliveries.{DeliversOf}
use Rattle.admission_log.specs.Legality.{IsLegal}
use Rattle.admission_log.proofs.Growing.{events-appended, publications-appended, published-appended}
use Rattle.edition_form.specs.declared.edition.Edition.{Edition}
use Rattle.edition_form.specs.Editions.{IsEdition}
use Rattle.station.specs.Newest.{is_publication, last_cut, IsNewest, StandsFor}

pub plain_publications : (log : History) (e : Event) → is_publication e ≡ false → publications_of (appended log e) ≡ publications_of log
plain_publications log (Deliver feed admitted told other) h = publications-appended log (Deliver feed admitted told other) ∙ append-nil (publications_of log)
plain_publications log (Tick time) h = publications-appended log (Tick time) ∙ append-nil (publications_of log)
plain_publications log (Publish number cut) h = absurd (cc)
plain_publications log (Bias radar slot bias) h = publications-appended log (Bias radar slot bias) ∙ append-nil (publications_of log)

-- the events before a cut that was there are the same
pub first_appended : (log : History) (e : Event) (cut : ℕ) → cut ≤ length log.events → first cut (appended log e) ≡ first cut log
first_appended log e cut within = ap (λ (events : List Event). record { start = log.start; events = events }) (take-append-le cut log.events (e ∷ []) within)

newest_plain : (settings : Settings) (log : History) (newest : Option Edition) (e : Event) → is_publication e ≡ false → IsNewest settings log newest → IsNewest settings (appended log e) newest
newest_plain settings log None e plain n = plain_publications log e plain ∙ n
newest_plain settings log (Some edition) e plain n = let same = plain_publications log e plain in record {
  earlier = n.earlier;
  number = n.number;
  cut = n.cut;
  last = same ∙ n.last;
  counted = n.counted ∙ ap length (sym same);
  within = let size : length (log.events ++ e ∷ []) ≡ length log.events + 1 = events-appended log e in let w : n.cut ≤ length log.events = n.within in omega arith;
  edition_is = subst (λ h. IsEdition settings h (last_cut n.earlier) n.number edition) (sym (first_appended log e n.cut n.within)) n.edition_is;
}

-- an event that publishes nothing leaves the newest edition
pub stands_plain : (settings : Settings) (log : History) (newest : Option Edition) (e : Event) → is_publication e ≡ false → StandsFor settings log newest → IsLegal settings (appended log e) → StandsFor settings (appended log e) newest
stands_plain settings log newest e plain s legal = record { legal = legal; newest_is = newest_plain settings log newest e plain s.newest_is }

-- an edition that is published is the newest
pub stands_published : (settings : Settings) (log : History) (edition : Edition) → IsLegal settings (appended log (Publish edition.number edition.cut)) → edition.cut ≤ length log.events
    → IsEdition settings (first edition.cut log) (last_cut (publications_of log)) (published_of log + 1) edition → StandsFor settings (appended log (Publish edition.number edition.cut)) (Some edition)
stands_published settings log edition legal within is = let e = Publish edition.number edition.cut in record {
  legal = legal;
  newest_is = record {
    earlier = publications_of log;
    number = edition.number;
    cut = edition.cut;
    last = publications-appended log e;
    counted = is.number_is ∙ sym (published-appended log e);
    within = let size : length (log.events ++ e ∷ []) ≡ length log.events + 1 = events-appended log e in omega arith;
    edition_is = subst (λ h. IsEdition settings h (last_cut (publications_of log)) edition.number edition) (sym (first_appended log e edition.cut within))
        (subst (λ n. IsEdition settings (first edition.cut log) (last_cut (publications_of log)) n edition) (sym is.number_is) is);
  };
}

-- .. after a call that may fail
pub stands_after : {T F : Type 0} (r : Result T F) (settings : Settings) (log new : History) (newest : Option Edition) (e : Event) → is_publication e ≡ false → OnOk r (new ≡ appended log e) → OnErr r (new ≡ log)
    → (IsLegal settings log → IsLegal settings new) → StandsFor settings log newest → StandsFor settings new newest
stands_after (Ok v) settings log new newest e plain grown same legal s = subst (λ h. StandsFor settings h newest) (sym grown) (stands_plain settings log newest e plain s (subst (IsLegal settings) grown (legal s.legal)))
stands_after (Err v) settings log new newest e plain grown same legal s = subst (λ h. StandsFor settings h newest) (sym same) s

-- .. after a datagram
pub stands_fed : {F : Type 0} (r : Result Receipt F) (settings own : Settings) (feed : ℕ) (said : Said) (log new : History) (newest : Option Edition) → own ≡ settings → IfOk r (λ v. DeliversOf own feed said log new v.outcomes) → OnErr r (new ≡ log)
    → (IsLegal own log → IsLegal own new) → StandsFor settings log newest → StandsFor settings new newest
stands_fed (Ok v) settings own feed said log new newest is d same legal s = let legal' : IsLegal settings new = subst (λ z. IsLegal z new) is (legal (subst (λ z. IsLegal z log) (sym is) s.legal)) in
    subst (λ h. StandsFor settings h newest) (sym d.new_is) (stands_plain settings log newest d.event (ap is_publication d.is_delivery.event_is) s (subst (IsLegal settings) d.new_is legal'))
stands_fed (Err v) settings own feed said log new newest is fed same legal s = subst (λ h. StandsFor settings h newest) (sym same) s
