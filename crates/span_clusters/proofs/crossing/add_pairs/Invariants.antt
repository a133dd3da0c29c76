use Rattle.std.proofs.Common.{ℕ, take}
use Rattle.std.specs.Prelude.{◌↔◌, ◌⊎◌, IsTrue}
use Rattle.std.specs.BTreeSet.{contains}
use Rattle.span_clusters.specs.Jobs.{ReachesOneAs, pair_cmp}
use Rattle.span_clusters.proofs.crossing.add_pairs.Given as goal

abbrev pub invariant-loop-other : goal.invariant-loop-other
invariant-loop-other g l =
    let F = g.F.Fold in
    (a b : ℕ) → IsTrue (contains pair_cmp l.found (a, b)) ↔ (IsTrue (contains pair_cmp l.initial.found (a, b)) ⊎ ReachesOneAs F.next F.slot_of g.F.Separable.gates l.one (take l.other-index l.done) a b)
