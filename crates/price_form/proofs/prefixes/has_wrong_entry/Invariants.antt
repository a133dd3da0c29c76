use Rattle.price_form.proofs.WrongNumbers.{NoWrongEntry}
use Rattle.price_form.proofs.prefixes.has_wrong_entry.Given as goal

abbrev pub invariant-loop-i : goal.invariant-loop-i
invariant-loop-i l = NoWrongEntry l.octets l.counts.tracks l.from l.i
