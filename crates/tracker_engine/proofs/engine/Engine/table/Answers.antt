use Rattle.std.proofs.Common.{◌∙◌, ap, sym, subst, length}
use Rattle.tracker_engine.specs.Engines.{StandsFor}
use Rattle.tracker_engine.proofs.Tables.{table_shown}
use Rattle.tracker_engine.proofs.engine.Engine.table.Goals as goal

pub returns : goal.returns
returns c settings log before s =
    let own = subst (StandsFor settings log (length log.events) before) (sym c.self.view_is) s in
    ap (λ state. state.table) c.state.ensures ∙ table_shown settings log before _ own
