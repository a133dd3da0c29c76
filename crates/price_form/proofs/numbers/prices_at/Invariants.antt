use Rattle.std.proofs.Common.{◌≡◌}
use Rattle.price_form.specs.Octets.{many_at, price_number_at}
use Rattle.price_form.proofs.numbers.prices_at.Given as goal

abbrev pub invariant-loop-i : goal.invariant-loop-i
invariant-loop-i l = l.prices.items ≡ many_at price_number_at 8 l.octets l.at l.i
