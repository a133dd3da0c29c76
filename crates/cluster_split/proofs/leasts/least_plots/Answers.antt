use Rattle.std.proofs.Common.{ℕ, ◌≡◌, ◌<◌, length, get_or, List, sym, subst, ◌∙◌}
use Rattle.std.proofs.lemmas.List.{take_at}
use Rattle.cluster_split.specs.Leasts.{AreLeasts}
use Rattle.cluster_split.proofs.leasts.least_plots.Goals as goal

pub label_all-requires-clause-own : goal.label_all-requires-clause-own
label_all-requires-clause-own c = subst (λ (xs : List ℕ). (p : ℕ) → p < length xs → get_or xs p 0 ≡ p) (sym c.deref_mut.ensures.value) c.in_ok-lower.ensures.own

pub label_all-requires-clause-inside : goal.label_all-requires-clause-inside
label_all-requires-clause-inside c = λ k d lt. subst (λ n. (get_or c.args.by_track.now k d).0 < n) (sym (λ i. length (c.deref_mut.ensures.value i))) (subst (λ n. (get_or c.args.by_track.now k d).0 < n) (sym c.in_ok-lower.ensures.len) (c.requires.inside k d lt))

pub returns : goal.returns
returns c =
    let same = take_at c.label_all.new.lower _ _ (c.label_all.auto.lower ∙ c.deref_mut.ensures.len) in
    subst (AreLeasts c.args.plots c.args.by_track.now) (sym same)
    (subst (λ n. AreLeasts n c.args.by_track.now c.label_all.new.lower) (((λ i. length (c.deref_mut.ensures.value i))) ∙ c.in_ok-lower.ensures.len) c.label_all.ensures)
