use Rattle.std.proofs.Common.{◌≡◌, map}
use Rattle.std.specs.List.{range_with_len}
use Rattle.pairing_load.specs.Problems.{after, full_edge}
use Rattle.pairing_load.proofs.problems.next_problem.Given as goal

abbrev pub invariant-loop-number : goal.invariant-loop-number
invariant-loop-number l = record {
  made : l.edges.items ≡ map (full_edge l.costs l.size l.initial.generator) (range_with_len 0 l.number);
  drawn : l.generator ≡ after l.costs l.number l.initial.generator;
}
