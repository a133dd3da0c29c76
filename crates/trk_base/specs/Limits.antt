-- Numbers that several crates cite: greatest costs, the plane's bound, and what counts stay below.
use Rattle.std.specs.Prelude.{ℕ, ◌^◌}

-- the greatest cost of a pair of plot and track that passes the gate
abbrev pub gate_cost : ℕ
gate_cost = 4096

-- the cost of a plot without a track, one more than that of any gate
abbrev pub miss_cost : ℕ
miss_cost = 4097

-- the greatest size of a coordinate in the plane, in 1/64 m
abbrev pub plane_bound : ℕ
plane_bound = 256000000

-- what arrivals, and numbers of events and of editions, stay below
abbrev pub count_limit : ℕ
count_limit = 2 ^ 62
