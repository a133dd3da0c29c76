use Rattle.std.proofs.Common.{◌≡◌, ◌<◌, ◌++◌, ◌∷◌, [], length, drop, rules}
use Rattle.span_clusters.specs.Interleavings.{IsBelowFirst}
use Rattle.span_clusters.proofs.GatheredItems.{left_there, taken_one}
use Rattle.span_clusters.proofs.crossing.items_without.Goals as goal
use Rattle.span_clusters.proofs.crossing.items_without.Goals.{then-is_below_first+in_ok-push, else-is_below_first}

pub loop-left-preserved : goal.loop-left-preserved
loop-left-preserved g c =
    let cmp = g.F.Item.Ord.cmp in
    let key = g.F.Fold.key_of in
    let at = c.loop-left in
    let x = c.index-left-0.result in
    let some : 0 < length at.left.now = search rules in
    rw c.split_at-in-loop-left.ensures.back (elim c.if-is_below_first.branch [
      | then-is_below_first+in_ok-push w ↦
          let pushed : c.if-is_below_first.others.items ≡ at.others.items ++ x ∷ [] = search rules in
          let same : c.if-is_below_first.mine.now ≡ at.mine.now = search rules in
          let below : IsBelowFirst cmp x at.mine.now = c.is_below_first.ensures.0 (search rules) in
          rw (pushed, same) (left_there cmp key g.met.F.Item.Ord.total c.args.own.now c.args.all.now at.others.items at.left.now at.mine.now x some c.index-left-0.is below at.invariant)
      | else-is_below_first w ↦
          let same : c.if-is_below_first.others.items ≡ at.others.items = search rules in
          let shorter : c.if-is_below_first.mine.now ≡ drop 1 at.mine.now = search rules in
          let above : IsBelowFirst cmp x at.mine.now → ⊥ = λ b. let t = c.is_below_first.ensures.1 b in let f = w.if-is_below_first.false in cc in
          rw (same, shorter) (taken_one cmp key g.met.F.Item.Ord.total c.args.own.now c.args.all.now at.others.items at.left.now at.mine.now x some c.index-left-0.is above at.invariant)
    ])
