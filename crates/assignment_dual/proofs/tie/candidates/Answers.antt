use Rattle.std.proofs.Common.{◌<◌, ◌+◌, arith, length}
use Rattle.std.proofs.lemmas.List.{get_or_default}
use Rattle.assignment_dual.proofs.Candidates.{collecting_skip, collecting_more, collected}
use Rattle.assignment_dual.proofs.tie.candidates.Goals as goal
use Rattle.assignment_dual.proofs.tie.candidates.Goals.{then-is_candidate+in_ok-push, else-is_candidate}

pub loop-k-preserved : goal.loop-k-preserved
loop-k-preserved c = elim c.if-is_candidate.branch [
  | then-is_candidate+in_ok-push w ↦ rw (w.tight-is, w.in_ok-push.ensures.items) (collecting_more c.loop-k.invariant w.if-is_candidate.ensures)
  | else-is_candidate w ↦ rw w.tight-is (collecting_skip c.loop-k.invariant w.if-is_candidate.ensures)
]

pub returns : goal.returns
returns c =
    let l : c.args.p + 1 < length c.args.graph.now.first.items = omega (arith, c.requires.graph.firsts, c.args.graph.now.first.ok.0, c.requires.p) in
    collected c.loop-k.invariant (omega (arith, get_or_default c.args.graph.now.first.items (c.args.p + 1) c.index-k-end.result.now 0 l, c.index-k-end.ensures, c.loop-k-test.false))
