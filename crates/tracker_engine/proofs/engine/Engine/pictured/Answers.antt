use Rattle.std.proofs.Common.{◌∙◌, sym, subst, length}
use Rattle.late_window.specs.Folding.{Rises}
use Rattle.admission_log.specs.EntryOrder.{entry_cmp}
use Rattle.tracker_fold.specs.Keys.{key_in}
use Rattle.tracker_engine.specs.Engines.{StandsFor}
use Rattle.tracker_engine.proofs.Editions.{items_rise, shown_now, all_biases, all_services, own_numbers, are_earlier, old_rise, datagrams_are, lines_are}
use Rattle.tracker_engine.proofs.engine.Engine.pictured.Goals as goal

pub biases_at-requires-clause-rising : goal.biases_at-requires-clause-rising
biases_at-requires-clause-rising c =
    let k = c.requires.settled in
    subst (Rises entry_cmp key_in) (sym c.items.ensures) (items_rise k.settings k.log (length k.log.events) k.before _ (subst (StandsFor k.settings k.log (length k.log.events) k.before) (sym c.self.view_is) k.stands))

pub pictured-requires-clause-biases : goal.pictured-requires-clause-biases
pictured-requires-clause-biases c =
    let k = c.requires.settled in
    all_biases _ _ _ _ _ _ _ _ _ (shown_now k.settings k.log k.before _ (subst (StandsFor k.settings k.log (length k.log.events) k.before) (sym c.self.view_is) k.stands) _ _ _ _ _ _ _ _ c.deref.ensures (c.deref-2.ensures.value ∙ c.in_ok-biases.ensures) c.as_slice.ensures c.state-state.ensures c.slot_of.ensures c.items.ensures c.deref-3.ensures.value c.deref-4.ensures.value)

pub pictured-requires-clause-services : goal.pictured-requires-clause-services
pictured-requires-clause-services c =
    let k = c.requires.settled in
    all_services _ _ _ _ _ _ _ _ _ (shown_now k.settings k.log k.before _ (subst (StandsFor k.settings k.log (length k.log.events) k.before) (sym c.self.view_is) k.stands) _ _ _ _ _ _ _ _ c.deref.ensures (c.deref-2.ensures.value ∙ c.in_ok-biases.ensures) c.as_slice.ensures c.state-state.ensures c.slot_of.ensures c.items.ensures c.deref-3.ensures.value c.deref-4.ensures.value)

pub pictured-requires-clause-numbers : goal.pictured-requires-clause-numbers
pictured-requires-clause-numbers c =
    let k = c.requires.settled in
    own_numbers _ _ _ _ _ _ _ _ _ (shown_now k.settings k.log k.before _ (subst (StandsFor k.settings k.log (length k.log.events) k.before) (sym c.self.view_is) k.stands) _ _ _ _ _ _ _ _ c.deref.ensures (c.deref-2.ensures.value ∙ c.in_ok-biases.ensures) c.as_slice.ensures c.state-state.ensures c.slot_of.ensures c.items.ensures c.deref-3.ensures.value c.deref-4.ensures.value) k.stands.legal

pub pictured-requires-clause-earlier : goal.pictured-requires-clause-earlier
pictured-requires-clause-earlier c =
    let k = c.requires.settled in
    are_earlier _ _ _ _ _ _ _ _ _ (shown_now k.settings k.log k.before _ (subst (StandsFor k.settings k.log (length k.log.events) k.before) (sym c.self.view_is) k.stands) _ _ _ _ _ _ _ _ c.deref.ensures (c.deref-2.ensures.value ∙ c.in_ok-biases.ensures) c.as_slice.ensures c.state-state.ensures c.slot_of.ensures c.items.ensures c.deref-3.ensures.value c.deref-4.ensures.value) k.stands.legal

pub pictured-requires-clause-old : goal.pictured-requires-clause-old
pictured-requires-clause-old c =
    let k = c.requires.settled in
    old_rise _ _ _ _ _ _ _ _ _ (shown_now k.settings k.log k.before _ (subst (StandsFor k.settings k.log (length k.log.events) k.before) (sym c.self.view_is) k.stands) _ _ _ _ _ _ _ _ c.deref.ensures (c.deref-2.ensures.value ∙ c.in_ok-biases.ensures) c.as_slice.ensures c.state-state.ensures c.slot_of.ensures c.items.ensures c.deref-3.ensures.value c.deref-4.ensures.value) k.stands.legal

pub returns-clause-datagrams : goal.returns-clause-datagrams
returns-clause-datagrams c settings log before s =
    let own = subst (StandsFor settings log (length log.events) before) (sym c.self.view_is) s in
    let are = shown_now settings log before _ own _ _ _ _ _ _ _ _ c.deref.ensures (c.deref-2.ensures.value ∙ c.in_ok-biases.ensures) c.as_slice.ensures c.state-state.ensures c.slot_of.ensures c.items.ensures c.deref-3.ensures.value c.deref-4.ensures.value in
    datagrams_are settings log before _ _ _ _ _ _ are c.args.number c.pictured.result c.pictured.ensures.datagrams

pub returns-clause-shown : goal.returns-clause-shown
returns-clause-shown c settings log before s =
    let own = subst (StandsFor settings log (length log.events) before) (sym c.self.view_is) s in
    let are = shown_now settings log before _ own _ _ _ _ _ _ _ _ c.deref.ensures (c.deref-2.ensures.value ∙ c.in_ok-biases.ensures) c.as_slice.ensures c.state-state.ensures c.slot_of.ensures c.items.ensures c.deref-3.ensures.value c.deref-4.ensures.value in
    lines_are settings log before _ _ _ _ _ _ are c.pictured.result c.pictured.ensures.shown
