use Rattle.std.proofs.Common.{◌≡◌, ◌∙◌, ap, sym, ◌++◌, ◌∷◌, [], ◌+◌, take}
use Rattle.std.proofs.lemmas.List.{take_more}
use Rattle.admission_log.specs.Biases.{last_change, last_with}
use Rattle.admission_log.proofs.Changing.{last_more}
use Rattle.admission_log.proofs.plots.last_change.Goals as goal

pub loop-entry-preserved : goal.loop-entry-preserved
loop-entry-preserved c =
    let r = c.args.radar in
    let n = c.args.slot in
    let i = c.loop-entry.entry-index in
    let xs = c.args.changes.now in
    let e = c.entry-item.result in
    let grown : take i xs ++ e ∷ [] ≡ take (i + 1) xs = ap (λ x. take i xs ++ x ∷ []) c.entry-item.is ∙ sym (take_more xs i e c.loop-entry-test.true) in
    c.last_with-last.ensures ∙ ap (λ last. last_with r n last e) c.loop-entry.invariant ∙ sym (last_more r n (take i xs) e) ∙ ap (last_change r n) grown
