use Rattle.std.proofs.Common.{rules}
use Rattle.track_parts.proofs.tests.batches_in.Goals as goal

pub batches_of-requires-clause-slot : goal.batches_of-requires-clause-slot
batches_of-requires-clause-slot g c = (c.args.slot, search rules)

pub returns : goal.returns
returns g c = c.in_ok-batches_of.ensures.batches c.args.slot (search rules)
