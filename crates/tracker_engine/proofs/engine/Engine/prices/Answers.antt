use Rattle.std.proofs.Common.{◌∙◌, ◌++◌, ap, sym, subst, refl, length}
use Rattle.std.specs.Prelude.{filter, flat_map, nat_le}
use Rattle.admission_log.specs.Histories.{low_at}
use Rattle.tracker_fold.specs.Priced.{told_octets}
use Rattle.tracker_engine.specs.Engines.{StandsFor}
use Rattle.tracker_engine.proofs.Pricing.{prices_are}
use Rattle.tracker_engine.proofs.engine.Engine.prices.Goals as goal

pub returns : goal.returns
returns c settings log before s =
    let own = subst (StandsFor settings log (length log.events) before) (sym c.self.view_is) s in
    let low = c.low.ensures ∙ ap (λ e. low_at e.settings.window e.last) (sym c.self.view_is) in
    prices_are settings log before _ own c.args.number c.self.inside.count c.low.result c.outs.result.now c.append_prices.new.octets.items refl low c.outs.ensures
    (c.in_ok-append_prices.ensures ∙ ap (λ os. os ++ flat_map (λ o. told_octets o.1) (filter (λ o. nat_le c.low.result o.0) c.outs.result.now)) c.in_ok-octets.ensures)
