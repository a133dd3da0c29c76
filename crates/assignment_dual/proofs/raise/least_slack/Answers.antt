use Rattle.std.proofs.Common.{◌≤◌, ℕ, inl, inr, arith, refl, subst}
use Rattle.assignment_dual.specs.Search.{mate_at}
use Rattle.assignment_dual.specs.Rising.{HasSlack}
use Rattle.assignment_dual.proofs.Shifts.{roomy_more}
use Rattle.assignment_dual.proofs.raise.least_slack.Goals as goal
use Rattle.assignment_dual.proofs.raise.least_slack.Goals.{then-free-least, else-free-least}

pub loop-i-preserved : goal.loop-i-preserved
loop-i-preserved c =
    let room : HasSlack c.args.graph.now c.args.prices.now c.args.seen.now (mate_at c.args.mates.now c.args.tree.now c.loop-i.i) c.vertex_slack-free.result =
    subst (λ (o : ℕ). HasSlack c.args.graph.now c.args.prices.now c.args.seen.now o c.vertex_slack-free.result) c.mate_of.ensures c.vertex_slack-free.ensures.room in
    let most : (d : ℕ) → HasSlack c.args.graph.now c.args.prices.now c.args.seen.now (mate_at c.args.mates.now c.args.tree.now c.loop-i.i) d → d ≤ c.vertex_slack-free.result =
    subst (λ (o : ℕ). (d : ℕ) → HasSlack c.args.graph.now c.args.prices.now c.args.seen.now o d → d ≤ c.vertex_slack-free.result) c.mate_of.ensures c.vertex_slack-free.ensures.greatest in
    elim c.if-free-least.branch [
      | then-free-least w ↦ rw w.least-is (roomy_more c.loop-i.invariant c.loop-i-test.true room most c.vertex_slack-free.ensures.some (omega (arith, w.if-free-least.true)) (omega arith) (inr refl))
      | else-free-least w ↦ rw w.least-is (roomy_more c.loop-i.invariant c.loop-i-test.true room most c.loop-i.invariant.some (omega arith) (omega (arith, w.if-free-least.false)) (inl refl))
    ]
