use Rattle.std.proofs.Common.{rules, ◌≡◌, ◌∙◌, ap, sym, ◌++◌, ◌∷◌, [], ◌+◌, take, append_assoc, append-nil, None, Some}
use Rattle.std.specs.List.{filter_map}
use Rattle.std.proofs.lemmas.List.{take_more}
use Rattle.std.proofs.lemmas.List.Elements.{filter_map-append}
use Rattle.admission_log.specs.Plots.{plot_over}
use Rattle.admission_log.proofs.Changing.{over_some, over_none}
use Rattle.admission_log.proofs.plots.append_over.Goals as goal
use Rattle.admission_log.proofs.plots.append_over.Goals.{in-Some+in_ok-push, in_default}

pub loop-one-preserved : goal.loop-one-preserved
loop-one-preserved c =
    let settings = c.args.settings.now in
    let changes = c.args.changes.now in
    let f = plot_over settings changes c.args.last in
    let i = c.loop-one.one-index in
    let xs = c.args.admitted.now in
    let a = c.one-item.result in
    let old = c.args.plots.now.items in
    let more : filter_map f (take i xs) ++ filter_map f (a ∷ []) ≡ filter_map f (take (i + 1) xs) =
    sym (filter_map-append f (take i xs) (a ∷ [])) ∙ ap (filter_map f) (ap (λ x. take i xs ++ x ∷ []) c.one-item.is ∙ sym (take_more xs i a c.loop-one-test.true)) in
    let grown : (c.loop-one.plots.items ++ filter_map f (a ∷ [])) ≡ old ++ filter_map f (take (i + 1) xs) =
    ap (λ t. t ++ filter_map f (a ∷ [])) c.loop-one.invariant ∙ append_assoc old (filter_map f (take i xs)) (filter_map f (a ∷ [])) ∙ ap (λ t. old ++ t) more in
    elim c.match-plot_over.branch [
      | in-Some+in_ok-push w ↦ (let told : f a ≡ Some w.in-Some.plot = search rules in
          let pushed : c.match-plot_over.plots.items ≡ c.loop-one.plots.items ++ w.in-Some.plot ∷ [] = search rules in
          pushed ∙ ap (λ t. c.loop-one.plots.items ++ t) (sym (over_some settings changes c.args.last a w.in-Some.plot told)) ∙ grown)
      | in_default w ↦ (let told : f a ≡ None = search rules in
          let kept : c.match-plot_over.plots.items ≡ c.loop-one.plots.items = search rules in
          kept ∙ sym (append-nil c.loop-one.plots.items) ∙ ap (λ t. c.loop-one.plots.items ++ t) (sym (over_none settings changes c.args.last a told)) ∙ grown)
    ]
