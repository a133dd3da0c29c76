use Rattle.std.proofs.Common.{◌≡◌}
use Rattle.price_form.specs.Octets.{many_at, edge_numbers_at}
use Rattle.price_form.proofs.numbers.edges_at.Given as goal

abbrev pub invariant-loop-i : goal.invariant-loop-i
invariant-loop-i l = l.edges.items ≡ many_at edge_numbers_at 10 l.octets l.at l.i
