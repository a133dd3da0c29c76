-- The assignment problems of a load.
use Rattle.std.specs.Prelude.{ℕ, ◌*◌, ◌/◌, ◌%◌, map}
use Rattle.std.specs.List.{range_with_len}
use Rattle.rand_pcg.specs.Lcg.{Lcg, advance, started, increment_of}
use Rattle.rand_pcg.specs.Pcg.{pcg32, multiplier_64}
use Rattle.assignment_dual.specs.Problems.{Edge, Problem}
use Rattle.pairing_load.specs.declared.problems.EdgeCosts.{EdgeCosts}
use Rattle.pairing_load.specs.declared.problems.EdgeCosts.TheVariants.{Random, Equal}

-- the generator of a seed
unfoldable pub generator_of : ℕ → Lcg
generator_of seed = started 64 multiplier_64 seed (increment_of 64 54)

-- the generator after the costs of n edges: costs that are all equal draw nothing
unfoldable pub after : EdgeCosts → ℕ → Lcg → Lcg
after Random n g = advance 64 multiplier_64 n g
after Equal n g = g

-- the cost of the next edge
unfoldable pub next_cost : EdgeCosts → Lcg → ℕ
next_cost Random g = (pcg32 g).0 % 4097
next_cost Equal g = 2048

-- edge number i of a problem: plot by plot, and for each plot track by track
abbrev pub full_edge : EdgeCosts → ℕ → Lcg → ℕ → Edge
full_edge costs size g i = (i / size, i % size, next_cost costs (after costs i g))

-- as many plots as tracks, and an edge between each plot and each track
unfoldable pub full_problem : EdgeCosts → ℕ → Lcg → Problem
full_problem costs size g = record {
  plots = size;
  tracks = size;
  edges = map (full_edge costs size g) (range_with_len 0 (size * size));
}

-- problem number k of a seed
abbrev pub problem : EdgeCosts → ℕ → ℕ → ℕ → Problem
problem costs size seed k = full_problem costs size (after costs (k * (size * size)) (generator_of seed))
