use Rattle.std.proofs.Common.{◌∙◌, ap, sym, subst, length}
use Rattle.admission_log.specs.Histories.{low_at}
use Rattle.tracker_engine.specs.Engines.{StandsFor}
use Rattle.tracker_engine.proofs.Tables.{certs_counted}
use Rattle.tracker_engine.proofs.engine.Engine.certificate_count.Goals as goal

pub returns : goal.returns
returns c settings log before s =
    let own = subst (StandsFor settings log (length log.events) before) (sym c.self.view_is) s in
    let low = c.low.ensures ∙ ap (λ e. low_at e.settings.window e.last) (sym c.self.view_is) in
    certs_counted settings log before _ own c.low.result c.outs.result.now low c.outs.ensures c.count_certs.result c.count_certs.ensures
