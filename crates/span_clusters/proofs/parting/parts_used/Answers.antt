use Rattle.std.proofs.Common.{◌≡◌, ◌++◌, ◌∷◌, [], rules, subst, inl, inr}
use Rattle.span_clusters.proofs.UsedNumbers.{UsedBelow, used_one, unused_one, used_all, all_below}
use Rattle.span_clusters.proofs.parting.parts_used.Goals as goal
use Rattle.span_clusters.proofs.parting.parts_used.Goals.{then-is_used+in_ok-push, else-is_used}

pub loop-part-preserved : goal.loop-part-preserved
loop-part-preserved c =
    let given = c.args.given.now in
    let n = c.loop-part.part in
    let parts = c.loop-part.parts.items in
    elim c.if-is_used.branch [
      | then-is_used+in_ok-push w ↦
          let pushed : c.if-is_used.parts.items ≡ parts ++ n ∷ [] = search rules in
          rw pushed (used_one given n parts (c.is_used.ensures.0 w.if-is_used.true) c.loop-part.invariant)
      | else-is_used w ↦
          let same : c.if-is_used.parts.items ≡ parts = search rules in
          rw same (unused_one given n parts (λ e. let t = c.is_used.ensures.1 (inl e) in let f = w.if-is_used.false in cc) (λ e. let t = c.is_used.ensures.1 (inr e) in let f = w.if-is_used.false in cc) c.loop-part.invariant)
    ]

pub returns : goal.returns
returns c =
    let over : c.loop-part.part ≡ c.args.wish = search rules in
    used_all c.args.given.now c.args.wish c.loop-part.parts.items c.requires.least (all_below c.args.given.now c.args.wish c.requires.below) (subst (λ n. UsedBelow c.args.given.now n c.loop-part.parts.items) over c.loop-part.invariant)
