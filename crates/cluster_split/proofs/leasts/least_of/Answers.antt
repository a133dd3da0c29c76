use Rattle.std.proofs.Common.{ℕ, ◌≤◌, ◌<◌, ◌∙◌, List, length, get_or, arith}
use Rattle.cluster_split.specs.Leasts.{Falls}
use Rattle.cluster_split.proofs.Labels.{falls_set, skipped}
use Rattle.cluster_split.proofs.leasts.least_of.Goals as goal

-- the plot on the way, the next one and the one after it
way_down : (lower : List ℕ) (at : ℕ) → Falls lower → at < length lower → (get_or lower at 0 < length lower) × (get_or lower at 0 ≤ at) × (get_or lower (get_or lower at 0) 0 ≤ get_or lower at 0)
way_down lower at falls lt =
    let down = falls at lt in
    let next : get_or lower at 0 < length lower = omega (arith, down, lt) in
    (next, down, falls (get_or lower at 0) next)

pub way-preserved : goal.way-preserved
way-preserved c =
    let lt : c.way.at < length c.way.lower = omega (arith, c.way.auto.lower, c.way.invariant.inside, c.requires.inside) in
    let down = way_down c.way.lower c.way.at c.way.invariant.falls lt in
    record {
      falls = falls_set c.way.lower c.way.at _ c.way.invariant.falls lt (omega (arith, down.1, down.2));
      inside = omega (arith, down.1, down.2, c.way.invariant.inside);
      labels = λ label h.
          let k = c.way.invariant.labels label h in
          (skipped c.way.lower label c.way.at c.way.invariant.falls lt k.0, k.0.kept _ down.0 ∙ k.0.kept _ lt ∙ k.1);
    }
