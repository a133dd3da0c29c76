use Rattle.std.proofs.Common.{◌≡◌, ◌<◌, ℕ, length, get_or}
use Rattle.assignment_dual.proofs.solving.first_mates.Given as goal

abbrev pub invariant-loop-vertex : goal.invariant-loop-vertex
invariant-loop-vertex l = (length l.mates.items ≡ l.vertex) × ((v : ℕ) → v < l.vertex → get_or l.mates.items v 0 ≡ v)
