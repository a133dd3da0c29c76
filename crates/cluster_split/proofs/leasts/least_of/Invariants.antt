use Rattle.std.proofs.Common.{◌≡◌, ℕ, ◌≤◌}
use Rattle.cluster_split.specs.Leasts.{Falls, IsLabelled}
use Rattle.cluster_split.proofs.leasts.least_of.Given as goal

abbrev pub invariant-way : goal.invariant-way
invariant-way l = record {
  falls : Falls l.lower;
  inside : l.at ≤ l.plot;
  labels : (label : ℕ → ℕ) → IsLabelled l.initial.lower label → IsLabelled l.lower label × (label l.at ≡ label l.plot);
}

abbrev pub decreases-way : goal.decreases-way
decreases-way l = l.at
