use Rattle.std.proofs.Common.{◌≡◌, ◌∙◌, ◌≤◌, ◌++◌, ◌∷◌, [], length, subst₂, rules}
use Rattle.late_window.specs.Folding.{states, AreOutsOf}
use Rattle.cluster_pool.proofs.Ways.{one_part}
use Rattle.cluster_pool.proofs.walking.merged_runs.Goals as goal

pub returns-in-Some-clause-states : goal.returns-in-Some-clause-states
returns-in-Some-clause-states g c =
    let F = g.F.Fold in
    let M = g.F.Separable in
    let parts = c.args.done.items in
    let zs = c.args.items.now in
    let few : length parts ≤ 1 = search rules in
    let cut : parts ≡ c.pop.new.self.items ++ c.in-Some.only ∷ [] = search rules in
    λ s i. let w = one_part F.slot_of F.is_before M.is_beside M.merged parts c.pop.new.self.items c.in-Some.only s zs cut few i in
    c.into_run-states.ensures.states ∙ (λ j. states F.next F.slot_of (w.start j) (w.items j))

pub returns-in-Some-clause-outs : goal.returns-in-Some-clause-outs
returns-in-Some-clause-outs g c =
    let F = g.F.Fold in
    let M = g.F.Separable in
    let parts = c.args.done.items in
    let zs = c.args.items.now in
    let few : length parts ≤ 1 = search rules in
    let cut : parts ≡ c.pop.new.self.items ++ c.in-Some.only ∷ [] = search rules in
    λ s i. let w = one_part F.slot_of F.is_before M.is_beside M.merged parts c.pop.new.self.items c.in-Some.only s zs cut few i in
    subst₂ (λ u xs. AreOutsOf F.next F.slot_of F.is_out u xs c.into_run-states.result.3.items) w.start w.items c.into_run-states.ensures.outs
