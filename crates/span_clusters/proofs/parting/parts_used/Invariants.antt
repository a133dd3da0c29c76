use Rattle.span_clusters.proofs.UsedNumbers.{UsedBelow}
use Rattle.span_clusters.proofs.parting.parts_used.Given as goal

abbrev pub invariant-loop-part : goal.invariant-loop-part
invariant-loop-part l = UsedBelow l.given l.part l.parts.items
