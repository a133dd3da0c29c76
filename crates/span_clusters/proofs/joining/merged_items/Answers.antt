use Rattle.std.proofs.Common.{◌≡◌, rules, ◌<◌, ◌++◌, ◌∷◌, [], length}
use Rattle.std.specs.declared.cmp.Ordering.TheVariants.{Less}
use Rattle.span_clusters.proofs.Merging.{took_left, took_right, merged_both, merged_rises, merged_rises_left, three}
use Rattle.span_clusters.proofs.joining.merged_items.Goals as goal
use Rattle.span_clusters.proofs.joining.merged_items.Goals.{then-loop-items-test+else-not-is_empty, else-loop-items-test}

pub loop-items-preserved-then-lt : goal.loop-items-preserved-then-lt
loop-items-preserved-then-lt g c =
    let cmp = g.F.Item.Ord.cmp in
    let x = c.index-left-0.result in
    let y = c.index-right-0.result in
    let l : 0 < length c.loop-items.left.now = search rules in
    let r : 0 < length c.loop-items.right.now = search rules in
    let less : cmp x y ≡ Less = search rules in
    let pushed : c.push.new.self.items ≡ c.loop-items.items.items ++ x ∷ [] = search rules in
    rw (pushed, c.split_at.ensures.back) (took_left cmp g.F.Fold.key_of g.met.F.Item.Ord.total c.args.one.now c.args.other.now c.loop-items.items.items c.loop-items.left.now c.loop-items.right.now x y c.loop-items.invariant l c.index-left-0.is r c.index-right-0.is less)

pub loop-items-preserved : goal.loop-items-preserved
loop-items-preserved g c =
    let cmp = g.F.Item.Ord.cmp in
    let x = c.index-left-0.result in
    let y = c.index-right-0.result in
    let l : 0 < length c.loop-items.left.now = search rules in
    let r : 0 < length c.loop-items.right.now = search rules in
    let not_less : cmp x y ≡ Less → ⊥ = search rules in
    let pushed : c.push-else-lt.new.self.items ≡ c.loop-items.items.items ++ y ∷ [] = search rules in
    rw (pushed, c.split_at-else-lt.ensures.back) (took_right cmp g.F.Fold.key_of g.met.F.Item.Ord.total g.met.F.Fold.exact c.args.one.now c.args.other.now c.loop-items.items.items c.loop-items.left.now c.loop-items.right.now x y c.loop-items.invariant l c.index-left-0.is r c.index-right-0.is not_less)

pub returns-clause-both : goal.returns-clause-both
returns-clause-both g c =
    let xs = c.loop-items.items.items in
    let ls = c.loop-items.left.now in
    let rs = c.loop-items.right.now in
    let one : c.extend_from_slice.new.self.items ≡ xs ++ ls = search rules in
    let two : c.extend_from_slice-2.new.self.items ≡ c.extend_from_slice.new.self.items ++ rs = search rules in
    rw (two, one, three xs ls rs) (merged_both g.F.Item.Ord.cmp g.F.Fold.key_of c.args.one.now c.args.other.now xs ls rs c.loop-items.invariant)

pub returns-clause-rising : goal.returns-clause-rising
returns-clause-rising g c =
    let xs = c.loop-items.items.items in
    let ls = c.loop-items.left.now in
    let rs = c.loop-items.right.now in
    let one : c.extend_from_slice.new.self.items ≡ xs ++ ls = search rules in
    let two : c.extend_from_slice-2.new.self.items ≡ c.extend_from_slice.new.self.items ++ rs = search rules in
    let u = c.loop-items.invariant in
    rw (two, one, three xs ls rs) (elim c.loop-items-test.branch [
      | then-loop-items-test+else-not-is_empty w ↦ merged_rises_left g.F.Item.Ord.cmp g.F.Fold.key_of c.args.one.now c.args.other.now xs ls rs u (search rules)
      | else-loop-items-test w ↦ merged_rises g.F.Item.Ord.cmp g.F.Fold.key_of c.args.one.now c.args.other.now xs ls rs u (search rules)
    ])
