use Rattle.std.proofs.Common.{◌≡◌}
use Rattle.part_load.proofs.parting.run_all.Given as goal

abbrev pub invariant-loop-job : goal.invariant-loop-job
invariant-loop-job l = l.done.items ≡ l.yielded
