use Rattle.std.proofs.Common.{◌≡◌, map, take}
use Rattle.span_clusters.specs.Parts.{numbered}
use Rattle.span_clusters.proofs.parting.parts_of.Given as goal

abbrev pub invariant-loop-part : goal.invariant-loop-part
invariant-loop-part g l = l.drafts.items ≡ map (numbered g.F.Separable.picked l.state l.items l.of_members l.of_items) (take l.part-index l.parts)
