use Rattle.std.proofs.Common.{◌≡◌}
use Rattle.price_form.specs.Octets.{many_at, entry_number_at}
use Rattle.price_form.proofs.numbers.entries_at.Given as goal

abbrev pub invariant-loop-i : goal.invariant-loop-i
invariant-loop-i l = l.entries.items ≡ many_at entry_number_at 4 l.octets l.at l.i
