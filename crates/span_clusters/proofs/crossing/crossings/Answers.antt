use Rattle.std.proofs.Common.{◌≡◌, ◌+◌, ◌<◌, ◌≤◌, ◌++◌, ◌∷◌, [], length, rules, take}
use Rattle.span_clusters.proofs.FoundPairs.{adds_up, some_more, take_more, take_whole, all_told}
use Rattle.span_clusters.proofs.crossing.crossings.Goals as goal

pub loop-one-preserved : goal.loop-one-preserved
loop-one-preserved g c =
    let F = g.F.Fold in
    let done = c.args.done.now in
    let before = take c.loop-one.one-index done in
    let p = c.one-item.result in
    let inside : c.loop-one.one-index < length done = search rules in
    let more : take (c.loop-one.one-index + 1) done ≡ before ++ p ∷ [] = take_more c.loop-one.one-index done p inside c.one-item.is in
    rw more (λ a b. adds_up _ _ _ _ _ (c.in_ok-add_reached.ensures a b) (c.loop-one.invariant a b) (some_more F.next F.slot_of g.F.Separable.gates p before done a b))

pub returns-clause-exact : goal.returns-clause-exact
returns-clause-exact g c =
    let F = g.F.Fold in
    let done = c.args.done.now in
    let over : length done ≤ c.loop-one.one-index = search rules in
    all_told F.next F.slot_of g.F.Separable.gates done c.requires.parts.numbers (take c.loop-one.one-index done) (take_whole c.loop-one.one-index done over) c.loop-one.found c.loop-one.invariant c.pairs_in_order.result c.pairs_in_order.ensures.items
