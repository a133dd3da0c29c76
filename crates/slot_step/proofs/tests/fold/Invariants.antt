use Rattle.slot_step.specs.Calls.{AreFromBefore}
use Rattle.slot_step.proofs.tests.fold.Given as goal

abbrev pub invariant-loop-slot : goal.invariant-loop-slot
invariant-loop-slot g l = AreFromBefore l.slot l.table
