use Rattle.std.proofs.Common.{rules, sym, subst}
use Rattle.slot_step.specs.Calls.{AreBatches}
use Rattle.part_load.proofs.parting.step.Goals as goal

pub batches_of-requires-clause-slot : goal.batches_of-requires-clause-slot
batches_of-requires-clause-slot g c = (c.args.slot, search rules)

pub slot_run-requires-clause-batches : goal.slot_run-requires-clause-batches
slot_run-requires-clause-batches g c = subst (AreBatches c.args.slot) (sym c.deref.ensures.value) (c.in_ok-batches.ensures.batches c.args.slot (search rules))
