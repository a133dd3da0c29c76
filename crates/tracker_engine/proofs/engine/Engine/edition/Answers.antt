use Rattle.std.proofs.Common.{◌∙◌, ap, sym, subst, length, map, refl}
use Rattle.std.specs.Prelude.{filter, flat_map, nat_le}
use Rattle.std.proofs.lemmas.List.Elements.{All-from_recursion}
use Rattle.price_form.specs.Certificates.{IsCert}
use Rattle.admission_log.specs.Histories.{low_at}
use Rattle.tracker_engine.specs.Engines.{StandsFor}
use Rattle.tracker_engine.proofs.Tables.{certs_shown, certs_whole}
use Rattle.tracker_engine.proofs.engine.Engine.edition.Goals as goal

pub returns-clause-edition : goal.returns-clause-edition
returns-clause-edition c settings log before s =
    let own = subst (StandsFor settings log (length log.events) before) (sym c.self.view_is) s in
    let low = c.low.ensures ∙ ap (λ e. low_at e.settings.window e.last) (sym c.self.view_is) in
    record {
      number_is = refl;
      cut = own.count_is;
      before_is = own.before_is;
      time = own.last_is;
      datagrams = c.in_ok-datagrams.ensures.datagrams settings log before s;
      certs = certs_shown settings log before _ own c.of.result (c.of.ensures ∙ c.in_ok-certs.ensures ∙ (λ i. flat_map (λ o. map (λ k. k.cert) o.1) (filter (λ o. nat_le (low i) o.0) (c.outs.ensures i))));
    }

pub returns-clause-whole : goal.returns-clause-whole
returns-clause-whole c settings log before s =
    let own = subst (StandsFor settings log (length log.events) before) (sym c.self.view_is) s in
    let low = c.low.ensures ∙ ap (λ e. low_at e.settings.window e.last) (sym c.self.view_is) in
    All-from_recursion IsCert _ (certs_whole settings log before _ own c.of.result (c.of.ensures ∙ c.in_ok-certs.ensures ∙ (λ i. flat_map (λ o. map (λ k. k.cert) o.1) (filter (λ o. nat_le (low i) o.0) (c.outs.ensures i)))))
