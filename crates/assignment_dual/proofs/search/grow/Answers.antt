use Rattle.std.proofs.Common.{arith, sym, ◌∙◌}
use Rattle.assignment_dual.proofs.Trees.{growing_next}
use Rattle.assignment_dual.proofs.search.grow.Goals as goal

pub nodes-preserved : goal.nodes-preserved
nodes-preserved c =
    growing_next c.nodes.invariant (omega (arith, c.nodes-test.true, c.len.ensures, c.nodes.search.tree.ok.0)) c.in_ok-end.ensures.tree (c.in_ok-end.ensures.seen ∙ sym c.nodes.invariant.count) c.in_ok-end.ensures.kept c.in_ok-end.ensures.front
    (rw c.in_default.is at c.in_ok-end.ensures.answer)
