use Rattle.std.proofs.Common.{arith}
use Rattle.tracker_engine.proofs.tests.follow.Goals as goal

pub loop-row-preserved : goal.loop-row-preserved
loop-row-preserved g c =
    let s = c.loop-row.invariant.stands in
    record { stands = (s.0, _, s.2, c.in_ok-advanced.ensures s.0 s.1 s.2 s.3); number = omega arith }
