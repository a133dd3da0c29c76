use Rattle.std.proofs.Common.{◌<◌, ◌+◌, inl, inr, arith, refl, length}
use Rattle.std.proofs.lemmas.List.{get_or_default}
use Rattle.assignment_dual.specs.Vertices.{HasArc}
use Rattle.assignment_dual.proofs.Shifts.{roomy_next}
use Rattle.assignment_dual.proofs.raise.vertex_slack.Goals as goal
use Rattle.assignment_dual.proofs.raise.vertex_slack.Goals.{then-free-room, else-free-room}

pub loop-k-preserved : goal.loop-k-preserved
loop-k-preserved c =
    let l : c.args.x + 1 < length c.args.graph.now.first.items = omega (arith, c.requires.graph.firsts, c.args.graph.now.first.ok.0, c.requires.x) in
    let a : HasArc c.args.graph.now c.args.x c.loop-k.k = record {
      from = c.loop-k.invariant.from;
      upto = omega (arith, get_or_default c.args.graph.now.first.items (c.args.x + 1) c.index-k-end.result.now 0 l, c.index-k-end.ensures, c.loop-k-test.true);
    } in
    elim c.if-free-room.branch [
      | then-free-room w ↦ rw w.room-is (roomy_next c.arc_slack-free.result c.loop-k.invariant a c.arc_slack-free.ensures.free c.arc_slack-free.ensures.within c.arc_slack-free.ensures.some (omega (arith, w.if-free-room.true)) (omega arith) (inr refl))
      | else-free-room w ↦ rw w.room-is (roomy_next c.arc_slack-free.result c.loop-k.invariant a c.arc_slack-free.ensures.free c.arc_slack-free.ensures.within c.loop-k.invariant.some (omega arith) (omega (arith, w.if-free-room.false)) (inl refl))
    ]
