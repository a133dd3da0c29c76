use Rattle.std.proofs.Common.{rules, sym, subst}
use Rattle.slot_step.specs.Calls.{AreBatches}
use Rattle.slot_load.proofs.folding.step.Goals as goal

pub batches_of-requires-clause-slot : goal.batches_of-requires-clause-slot
batches_of-requires-clause-slot g c = (c.args.slot, search rules)

pub slot_step-requires-clause-batches : goal.slot_step-requires-clause-batches
slot_step-requires-clause-batches g c = subst (AreBatches c.args.slot) (sym c.deref.ensures.value) (c.in_ok-batches.ensures.batches c.args.slot (search rules))
