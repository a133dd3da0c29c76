use Rattle.std.proofs.Common.{◌-◌, length}
use Rattle.price_form.proofs.Taking.{Taken}
use Rattle.price_form.proofs.reading.certificate_offsets.Given as goal

abbrev pub invariant-loop-at : goal.invariant-loop-at
invariant-loop-at l = Taken l.bytes l.at l.offsets.items

abbrev pub decreases-loop-at : goal.decreases-loop-at
decreases-loop-at l = length l.bytes - l.at
