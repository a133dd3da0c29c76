use Rattle.std.proofs.Common.{◌≡◌, ◌∙◌, ap, sym, subst, ◌++◌, ◌∷◌, [], ◌+◌, take, append-nil}
use Rattle.std.specs.List.{filter_map, flat_map}
use Rattle.std.specs.List.Sorted.{IsPermutation}
use Rattle.std.proofs.lemmas.List.{take_more, take_all}
use Rattle.std.proofs.lemmas.Grind.{flat_map-append}
use Rattle.std.proofs.lemmas.List.Elements.{filter_map-append}
use Rattle.admission_log.specs.Histories.{admitted_in, admitted_of, last_of}
use Rattle.admission_log.specs.Biases.{changes_of}
use Rattle.admission_log.specs.Plots.{plot_over, plots_over}
use Rattle.admission_log.proofs.Rising.{one_rising}
use Rattle.admission_log.proofs.Changing.{all_over}
use Rattle.admission_log.proofs.plots.plots_of.Goals as goal

pub loop-event-preserved : goal.loop-event-preserved
loop-event-preserved c =
    let f = plot_over c.args.settings.now c.in_ok-changes.changes.items c.last-last.result in
    let i = c.loop-event.event-index in
    let es = c.events-event-items.result.now in
    let e = c.event-item.result in
    let one : flat_map admitted_in (e ∷ []) ≡ admitted_in e = append-nil (admitted_in e) in
    let more : filter_map f (flat_map admitted_in (take i es)) ++ filter_map f (admitted_in e) ≡ filter_map f (flat_map admitted_in (take (i + 1) es)) =
    sym (filter_map-append f (flat_map admitted_in (take i es)) (admitted_in e))
    ∙ ap (filter_map f) (ap (λ t. flat_map admitted_in (take i es) ++ t) (sym one) ∙ sym (flat_map-append admitted_in (take i es) (e ∷ [])) ∙ ap (flat_map admitted_in) (ap (λ x. take i es ++ x ∷ []) c.event-item.is ∙ sym (take_more es i e c.loop-event-test.true))) in
    c.in_ok-append_over.ensures ∙ ap (λ changes. c.loop-event.plots.items ++ filter_map (plot_over c.args.settings.now changes c.last-last.result) c.admitted_by.result.now) c.deref.ensures.value ∙ ap (λ t. t ++ filter_map f c.admitted_by.result.now) c.loop-event.invariant ∙ ap (λ t. filter_map f (flat_map admitted_in (take i es)) ++ filter_map f t) c.admitted_by.ensures ∙ more

pub returns : goal.returns
returns c =
    let settings = c.args.settings.now in
    let log = c.args.log.now in
    let es = c.events-event-items.result.now in
    let changes : c.in_ok-changes.changes.items ≡ changes_of log.events = c.in_ok-changes.ensures ∙ ap changes_of c.events.ensures.value in
    let same : es ≡ log.events = c.events-event-items.ensures.value in
    let over : c.loop-event.plots.items ≡ filter_map (plot_over settings (changes_of log.events) (last_of log)) (admitted_of log) =
    c.loop-event.invariant ∙ ap (λ t. filter_map (plot_over settings c.in_ok-changes.changes.items c.last-last.result) (flat_map admitted_in t)) (take_all c.loop-event.event-index es c.loop-event-test.false ∙ same)
    ∙ (λ i. filter_map (plot_over settings (changes i) (c.last-last.ensures.value i)) (admitted_of log)) in
    let all : c.loop-event.plots.items ≡ plots_over settings log = over ∙ all_over settings log (last_of log) (admitted_of log) in
    one_rising _ _ (subst (λ ps. IsPermutation ps c.sort_unstable.new.self.items) all c.sort_unstable.ensures.permutation) c.sort_unstable.ensures.sorted
