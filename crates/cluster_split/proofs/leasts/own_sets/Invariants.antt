use Rattle.std.proofs.Common.{◌≡◌, ℕ, ◌<◌, length, get_or}
use Rattle.cluster_split.proofs.leasts.own_sets.Given as goal

abbrev pub invariant-loop-plot : goal.invariant-loop-plot
invariant-loop-plot l = record { len : length l.sets.items ≡ l.plot; own : (p : ℕ) → p < length l.sets.items → get_or l.sets.items p 0 ≡ p }
