use Rattle.track_parts.specs.Laws.{plots_rise}
use Rattle.track_parts.proofs.fold.slot_batches.Goals as goal

pub batches_of-requires-clause-rising : goal.batches_of-requires-clause-rising
batches_of-requires-clause-rising c = plots_rise c.args.plots.now c.requires.rising

pub batches_of-requires-clause-slot : goal.batches_of-requires-clause-slot
batches_of-requires-clause-slot c = (c.args.slot, c.requires.of_slot)

pub returns-clause-batches : goal.returns-clause-batches
returns-clause-batches c = c.batches_of.ensures.batches c.args.slot c.requires.of_slot
