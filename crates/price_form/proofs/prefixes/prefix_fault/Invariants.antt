use Rattle.std.proofs.Common.{◌-◌, length}
use Rattle.price_form.proofs.PrefixFaults.{Begun}
use Rattle.price_form.proofs.prefixes.prefix_fault.Given as goal

abbrev pub invariant-loop-at : goal.invariant-loop-at
invariant-loop-at l = Begun l.prefix l.at

abbrev pub decreases-loop-at : goal.decreases-loop-at
decreases-loop-at l = length l.prefix - l.at
