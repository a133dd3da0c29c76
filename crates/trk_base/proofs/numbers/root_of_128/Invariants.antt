use Rattle.std.proofs.Common.{◌<◌, ◌+◌, ◌*◌, ◌^◌}
use Rattle.trk_base.proofs.numbers.root_of_128.Given as goal

abbrev pub invariant-loop-estimate : goal.invariant-loop-estimate
invariant-loop-estimate l = (l.n < (l.estimate + 1) * (l.estimate + 1)) × (l.estimate < 2 ^ 64)

abbrev pub decreases-loop-estimate : goal.decreases-loop-estimate
decreases-loop-estimate l = l.estimate
