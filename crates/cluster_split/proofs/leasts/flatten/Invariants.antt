use Rattle.std.proofs.Common.{◌≡◌, ℕ, ◌<◌, get_or}
use Rattle.cluster_split.specs.Leasts.{Falls, IsLabelled}
use Rattle.cluster_split.proofs.leasts.flatten.Given as goal

abbrev pub invariant-loop-plot : goal.invariant-loop-plot
invariant-loop-plot l = record {
  falls : Falls l.lower;
  labels : (label : ℕ → ℕ) → IsLabelled l.initial.lower label → IsLabelled l.lower label × ((p : ℕ) → p < l.plot → get_or l.lower p 0 ≡ label p);
}
