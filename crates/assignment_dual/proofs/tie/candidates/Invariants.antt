use Rattle.assignment_dual.proofs.Candidates.{Collecting}
use Rattle.assignment_dual.proofs.tie.candidates.Given as goal

abbrev pub invariant-loop-k : goal.invariant-loop-k
invariant-loop-k l = Collecting l.graph l.prices l.gone l.p l.tight.items l.k
