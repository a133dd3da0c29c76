use Rattle.price_form.proofs.WrongNumbers.{NoWrongEdge}
use Rattle.price_form.proofs.prefixes.has_wrong_edge.Given as goal

abbrev pub invariant-loop-i : goal.invariant-loop-i
invariant-loop-i l = NoWrongEdge l.octets l.counts.plots l.counts.tracks l.from l.i
