use Rattle.std.proofs.Common.{◌≡◌, ◌∙◌, ap, sym, map, take, ◌++◌, ◌∷◌, [], ◌+◌, append_assoc}
use Rattle.std.proofs.lemmas.List.{map-append, take_more}
use Rattle.std.proofs.lemmas.Result.{err_from_is_err_and}
use Rattle.admission_log.specs.declared.entries.Entry.TheVariants.{Plot}
use Rattle.admission_log.specs.Entries.{plot_entry}
use Rattle.admission_log.proofs.entries.append_plots.Goals as goal

pub returns-in_err-push-clause-err : goal.returns-in_err-push-clause-err
returns-in_err-push-clause-err c =
    let p = err_from_is_err_and c.from_residual.result c.from_residual.ensures.1 in
    rw (p.1, p.2) (map plot_entry (take c.loop-plot.plot-index c.args.admitted.now), c.in_err-push.ensures.items ∙ c.loop-plot.invariant)

pub loop-plot-preserved : goal.loop-plot-preserved
loop-plot-preserved c =
    let i = c.loop-plot.plot-index in
    let xs = c.args.admitted.now in
    let a = c.plot-item.result in
    let old = c.args.entries.now.items in
    let grown : map plot_entry (take i xs) ++ plot_entry a ∷ [] ≡ map plot_entry (take (i + 1) xs) =
    sym (map-append plot_entry (take i xs) (a ∷ [])) ∙ ap (map plot_entry) (ap (λ x. take i xs ++ x ∷ []) c.plot-item.is ∙ sym (take_more xs i a c.loop-plot-test.true)) in
    c.in_ok-push.ensures.items ∙ ap (λ k. c.loop-plot.entries.items ++ Plot k a.plot ∷ []) c.key.ensures ∙ ap (λ t. t ++ plot_entry a ∷ []) c.loop-plot.invariant
    ∙ append_assoc old (map plot_entry (take i xs)) (plot_entry a ∷ []) ∙ ap (λ t. old ++ t) grown
