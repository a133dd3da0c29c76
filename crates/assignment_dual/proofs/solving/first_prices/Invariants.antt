use Rattle.std.proofs.Common.{◌≡◌, ◌≤◌, ◌<◌, ℕ, length, get_or}
use Rattle.trk_base.specs.Limits.{miss_cost}
use Rattle.assignment_dual.proofs.solving.first_prices.Given as goal

abbrev pub invariant-loop-vertex : goal.invariant-loop-vertex
invariant-loop-vertex l = (length l.prices.items ≡ l.vertex) × ((v : ℕ) → v < l.plots → v < l.vertex → get_or l.prices.items v 0 ≡ 0) × ((v : ℕ) → l.plots ≤ v → v < l.vertex → get_or l.prices.items v 0 ≡ miss_cost)
