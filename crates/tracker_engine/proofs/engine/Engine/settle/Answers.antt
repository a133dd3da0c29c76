use Rattle.std.proofs.Common.{◌∙◌, ap, sym, subst, length, arith}
use Rattle.std.specs.Prelude.{filter, nat_le}
use Rattle.std.specs.Arc.{arc_value}
use Rattle.late_window.specs.Folding.{below, slots}
use Rattle.late_window.specs.Windows.{dirty_slots}
use Rattle.admission_log.specs.Entries.{entries_of, slot_in}
use Rattle.admission_log.specs.Histories.{low_at}
use Rattle.tracker_fold.specs.Starts.{start}
use Rattle.tracker_engine.specs.Engines.{StandsFor}
use Rattle.tracker_engine.proofs.Standing.{Keeps, all_are_settled, few_steps}
use Rattle.tracker_engine.proofs.engine.Engine.settle.Goals as goal

pub returns-in_err-settle_window-clause-bound : goal.returns-in_err-settle_window-clause-bound
returns-in_err-settle_window-clause-bound g c settings log settled before spanned s span =
    let few = few_steps settings log settled before _ (subst (StandsFor settings log settled before) (sym c.self.view_is) s) spanned span in
    let bound = c.settle_window.ensures.bound in
    let upto = ap (λ n. length (dirty_slots slot_in c.self.inside.window n)) c.slot_of-upto.ensures in
    omega (arith, bound, upto, few)

pub returns-clause-stands : goal.returns-clause-stands
returns-clause-stands g c settings log settled before s =
    let own = subst (StandsFor settings log settled before) (sym c.self.view_is) s in
    let low = c.low-low.ensures ∙ ap (λ e. low_at e.settings.window e.last) (sym c.self.view_is) in
    let keeps : Keeps settings (entries_of log) c.close_below.new.self = c.close_below.ensures.stands (start settings) (entries_of log) (c.in_ok-settle_window.ensures.stands (start settings) (entries_of log) own.entries) in
    let folds = c.close_below.ensures.folded ∙ (λ i. filter (λ n. nat_le (low i) n) (c.in_ok-settle_window.ensures.folded i)) ∙ ap (λ upto. filter (λ n. nat_le (low_at (arc_value c.self.inside.settings).window c.self.inside.last) n) (slots slot_in (below slot_in upto c.self.inside.window.items))) c.slot_of-upto.ensures in
    all_are_settled settings log settled before _ own c.close_below.new.self keeps (c.close_below.ensures.low ∙ low) folds

pub returns-clause-bound : goal.returns-clause-bound
returns-clause-bound g c settings log settled before spanned s span =
    let few = few_steps settings log settled before _ (subst (StandsFor settings log settled before) (sym c.self.view_is) s) spanned span in
    let bound = c.settle_window.ensures.bound in
    let upto = ap (λ n. length (dirty_slots slot_in c.self.inside.window n)) c.slot_of-upto.ensures in
    omega (arith, bound, upto, few)
