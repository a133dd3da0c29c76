use Rattle.std.proofs.Common.{◌≡◌, ◌≤◌, ◌*◌}
use Rattle.pairing_load.specs.Problems.{after, generator_of}
use Rattle.pairing_load.specs.Totals.{IsCostSum}
use Rattle.pairing_load.proofs.solving.total_cost.Given as goal

abbrev pub invariant-loop-number : goal.invariant-loop-number
invariant-loop-number l = record {
  drawn : l.generator ≡ after l.fn.load.costs (l.number * (l.fn.load.size * l.fn.load.size)) (generator_of l.fn.load.seed);
  sum : IsCostSum l.fn.load.costs l.fn.load.size l.fn.load.seed l.number l.total;
  small : l.total ≤ 4097000 * l.number;
}
