use Rattle.std.proofs.Common.{ℕ, take}
use Rattle.std.specs.Prelude.{◌↔◌, IsTrue}
use Rattle.std.specs.BTreeSet.{contains}
use Rattle.span_clusters.specs.Jobs.{pair_cmp}
use Rattle.span_clusters.proofs.FoundPairs.{SomeReach}
use Rattle.span_clusters.proofs.crossing.crossings.Given as goal

abbrev pub invariant-loop-one : goal.invariant-loop-one
invariant-loop-one g l =
    let F = g.F.Fold in
    (a b : ℕ) → IsTrue (contains pair_cmp l.found (a, b)) ↔ SomeReach F.next F.slot_of g.F.Separable.gates (take l.one-index l.done) l.done a b
