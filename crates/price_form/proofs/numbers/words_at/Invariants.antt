use Rattle.std.proofs.Common.{◌≡◌}
use Rattle.price_form.specs.Octets.{many_at, word_at}
use Rattle.price_form.proofs.numbers.words_at.Given as goal

abbrev pub invariant-loop-i : goal.invariant-loop-i
invariant-loop-i l = l.words.items ≡ many_at word_at 8 l.octets l.at l.i
