use Rattle.slot_step.specs.Calls.{AreFromBefore}
use Rattle.track_parts.proofs.tests.numbers_each.Given as goal

abbrev pub invariant-loop-slot : goal.invariant-loop-slot
invariant-loop-slot g l = AreFromBefore l.slot l.table
