use Rattle.std.proofs.Common.{◌∙◌, ◌++◌, ◌+◌, ◌≤◌, ap, sym, subst, length, arith}
use Rattle.std.specs.Prelude.{filter, fold, nat_lt}
use Rattle.std.specs.List.{AllByRecursion, list_all}
use Rattle.track_life.proofs.Lent.{came_back}
use Rattle.late_window.specs.Windows.{AreNew, folded}
use Rattle.admission_log.specs.Entries.{entries_of, slot_in}
use Rattle.tracker_fold.specs.Keys.{key_in}
use Rattle.tracker_fold.specs.Starts.{start}
use Rattle.tracker_engine.specs.Engines.{StandsFor}
use Rattle.tracker_engine.specs.Hearing.{noted}
use Rattle.tracker_engine.proofs.Entering.{entries_at}
use Rattle.tracker_engine.proofs.Hearing.{never_falls}
use Rattle.tracker_engine.proofs.Standing.{Keeps, come_open, come_new, absorbed}
use Rattle.tracker_engine.proofs.engine.Engine.absorb.Goals as goal

pub insert_all-requires-clause-open : goal.insert_all-requires-clause-open
insert_all-requires-clause-open c =
    let k = c.requires.continues in
    let own = subst (StandsFor k.settings k.log k.settled k.before) (sym c.self.view_is) k.stands in
    let entries = c.deref.ensures.value ∙ c.in_ok-entries.ensures ∙ ap (λ n. entries_at n c.args.events.now) own.count_is in
    subst (AllByRecursion (λ x. c.self.inside.window.low ≤ slot_in x)) (sym entries) (come_open k.settings k.log k.settled k.before _ own c.args.events.now k.legal)

pub insert_all-requires-clause-new : goal.insert_all-requires-clause-new
insert_all-requires-clause-new c =
    let k = c.requires.continues in
    let own = subst (StandsFor k.settings k.log k.settled k.before) (sym c.self.view_is) k.stands in
    let entries = c.deref.ensures.value ∙ c.in_ok-entries.ensures ∙ ap (λ n. entries_at n c.args.events.now) own.count_is in
    subst (AreNew key_in c.self.inside.window.items) (sym entries) (come_new k.settings k.log k.settled k.before _ own c.args.events.now k.legal)

pub invariant_of-self-2 : goal.invariant_of-self-2
invariant_of-self-2 c =
    let later = never_falls _ _ c.args.events.now _ c.note_all.ensures in
    record {
      upto = omega (arith, c.self.invariant.upto, later, c.in_ok-insert_all.ensures.upto);
      low = omega (arith, c.self.invariant.low, later, c.in_ok-insert_all.ensures.low);
    }

pub returns-clause-stands : goal.returns-clause-stands
returns-clause-stands c settings log settled before s legal =
    let own = subst (StandsFor settings log settled before) (sym c.self.view_is) s in
    let entries = c.deref.ensures.value ∙ c.in_ok-entries.ensures ∙ ap (λ n. entries_at n c.args.events.now) own.count_is in
    let back = came_back _ c.note_all.new.services _ (omega (arith, c.deref_mut.ensures.len, c.note_all.auto.services)) in
    let heard = ap (λ l. (c.note_all.new.last, l)) back ∙ c.note_all.ensures ∙ ap (λ l. fold noted (c.self.inside.last, l) c.args.events.now) c.deref_mut.ensures.value in
    absorbed settings log settled before _ own c.args.events.now legal c.note_all.new.last c.in_ok-count.count _ c.insert_all.new.self
    (subst (λ l. Keeps settings (l ++ entries_of log) c.insert_all.new.self) entries (c.in_ok-insert_all.ensures.stands (start settings) (entries_of log) own.entries))
    (c.in_ok-insert_all.ensures.folded ∙ ap (λ l. filter (λ n. list_all (λ x. nat_lt n (slot_in x)) l) (folded c.self.inside.window)) entries) c.in_ok-insert_all.ensures.low heard (c.in_ok-count.ensures.count ∙ ap (λ e. e.count + length c.args.events.now) (sym c.self.view_is))
