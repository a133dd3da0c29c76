use Rattle.std.proofs.Common.{◌≡◌, ◌+◌, ◌<◌, ◌++◌, ◌∷◌, [], length, rules, take}
use Rattle.span_clusters.proofs.FoundPairs.{goes_on, reaches_more, take_more}
use Rattle.span_clusters.proofs.crossing.add_pairs.Goals as goal

pub loop-other-preserved : goal.loop-other-preserved
loop-other-preserved g c =
    let F = g.F.Fold in
    let before = take c.loop-other.other-index c.args.done.now in
    let q = c.other-item.result in
    let inside : c.loop-other.other-index < length c.args.done.now = search rules in
    let more : take (c.loop-other.other-index + 1) c.args.done.now ≡ before ++ q ∷ [] = take_more c.loop-other.other-index c.args.done.now q inside c.other-item.is in
    rw more (λ a b. goes_on _ _ _ _ _ _ (c.in_ok-add_pair.ensures a b) (c.loop-other.invariant a b) (reaches_more F.next F.slot_of g.F.Separable.gates c.args.one.now q before a b))
